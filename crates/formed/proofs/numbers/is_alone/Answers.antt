-- `formed::numbers::is_alone` meets its contract: the chain asks of each that comes whether it is apart. Assumes nothing.
use Rattle.std.proofs.Common.{◌∙◌, rules}
use Rattle.std.proofs.lemmas.Iterator.{YieldsList-from_slice}
use Rattle.std.proofs.lemmas.Iterator.Search.{all_from_yields_List}
use Rattle.formed.proofs.Places.{all_listed}
use Rattle.formed.proofs.numbers.is_alone.Goals as goal

pub returns : goal.returns
returns g c =
    let apart = g.K.Known.apart c.args.place.now in
    all_from_yields_List apart _ _ _ c.all.ensures.ran (YieldsList-from_slice c.args.rest.now cc) (λ x b q k. search rules) ∙ all_listed apart c.args.rest.now
