use Rattle.std.proofs.Common.{rules, ap, ◌∙◌}
use Rattle.std.proofs.lemmas.Iterator.{YieldsList-from_slice}
use Rattle.std.proofs.lemmas.Iterator.Search.{all_from_yields_List}
use Rattle.meaning.specs.Serial.{taken, live}
use Rattle.meaning.proofs.Live.{live_reverse}
use Rattle.meaning.proofs.serial.is_live.Goals as goal

pub returns : goal.returns
returns c =
    let open_ifs = c.open_ifs.result.now in
    all_from_yields_List taken _ _ _ c.all.ensures.ran (YieldsList-from_slice open_ifs cc) (λ x b q k. search rules) ∙ live_reverse open_ifs ∙ ap live c.open_ifs.ensures
