use Rattle.word.specs.contracts.arithmetic.WrapArithmetic.TheImpl.{ghosts as wrap}
use Rattle.worked_examples.specs.Images.{countdown_image}
use Rattle.worked_examples.proofs.Judging.{countdown_one}
use Rattle.worked_examples.proofs.Running.{countdown_wrapped}
use Rattle.worked_examples.proofs.Serving.{calls_answered}
use Rattle.worked_examples.proofs.Told.{never_refused}
use Rattle.worked_examples.proofs.served.serve_countdown_wrapping.Goals as goal

pub returns-in_err-serve-clause-starts : goal.returns-in_err-serve-clause-starts
returns-in_err-serve-clause-starts c = absurd (never_refused _ _ (countdown_one _ c.in_err-serve.ensures.verdict))

pub returns-in_err-serve-clause-told : goal.returns-in_err-serve-clause-told
returns-in_err-serve-clause-told c = absurd (never_refused _ _ (countdown_one _ c.in_err-serve.ensures.verdict))

pub returns-clause-told : goal.returns-clause-told
returns-clause-told c = λ a. calls_answered wrap.plus wrap.minus _ countdown_image c.args.asked.now c.serve.new.asked c.in_ok-serve.field-0 c.in_ok-serve.ensures.served _ _ (countdown_wrapped a)
