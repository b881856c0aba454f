use Rattle.word.specs.contracts.arithmetic.WrapArithmetic.TheImpl.{ghosts as wrap}
use Rattle.worked_examples.specs.Images.{sampling_image}
use Rattle.worked_examples.specs.Runs.{TenthsMarked, TenthMarked}
use Rattle.worked_examples.proofs.Judging.{sampling_five}
use Rattle.worked_examples.proofs.Running.{sampling_peeked}
use Rattle.worked_examples.proofs.Tenth.{every_tenth, first_ten}
use Rattle.worked_examples.proofs.Serving.{run_holds, calls_answered}
use Rattle.worked_examples.proofs.Told.{never_refused}
use Rattle.worked_examples.proofs.served.serve_sampling.Goals as goal

pub returns-in_err-serve-clause-starts : goal.returns-in_err-serve-clause-starts
returns-in_err-serve-clause-starts c = absurd (never_refused _ _ (sampling_five _ c.in_err-serve.ensures.verdict))

pub returns-in_err-serve-clause-tenths : goal.returns-in_err-serve-clause-tenths
returns-in_err-serve-clause-tenths c = absurd (never_refused _ _ (sampling_five _ c.in_err-serve.ensures.verdict))

pub returns-in_err-serve-clause-tenth : goal.returns-in_err-serve-clause-tenth
returns-in_err-serve-clause-tenth c = absurd (never_refused _ _ (sampling_five _ c.in_err-serve.ensures.verdict))

pub returns-in_err-serve-clause-told : goal.returns-in_err-serve-clause-told
returns-in_err-serve-clause-told c = absurd (never_refused _ _ (sampling_five _ c.in_err-serve.ensures.verdict))

pub returns-clause-tenths : goal.returns-clause-tenths
returns-clause-tenths c = run_holds wrap.plus wrap.minus _ sampling_image c.args.asked.now c.serve.new.asked c.in_ok-serve.field-0 c.in_ok-serve.ensures.served TenthsMarked every_tenth

pub returns-clause-tenth : goal.returns-clause-tenth
returns-clause-tenth c = run_holds wrap.plus wrap.minus _ sampling_image c.args.asked.now c.serve.new.asked c.in_ok-serve.field-0 c.in_ok-serve.ensures.served TenthMarked first_ten

pub returns-clause-told : goal.returns-clause-told
returns-clause-told c = λ a b. calls_answered wrap.plus wrap.minus _ sampling_image c.args.asked.now c.serve.new.asked c.in_ok-serve.field-0 c.in_ok-serve.ensures.served _ _ (sampling_peeked a b)
