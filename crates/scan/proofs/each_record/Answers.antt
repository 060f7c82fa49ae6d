-- `each_record` meets its contract: `all` asks each record.
use Rattle.std.proofs.Common.{ℕ, Bool, refl, ◌∙◌, arith, rules, tests}
use Rattle.std.proofs.lemmas.Iterator.{YieldsList-from_range}
use Rattle.std.proofs.lemmas.Iterator.Search.{all_from_yields_List}
use Rattle.store.specs.Layout.{id_of}
use Rattle.sides.proofs.Each.{each_range}
use Rattle.scan.specs.Scan.{record_scan}
use Rattle.scan.proofs.each_record.Goals as goal

pub returns : goal.returns
returns c =
    let a = c.args in
    let f : ℕ → Bool = λ (k : ℕ). record_scan a.store.now (id_of k) in
    all_from_yields_List f _ _ _ c.all.ensures.ran (YieldsList-from_range 0 a.n a.n refl (omega arith)) (λ x b q k. search (rules, tests))
    ∙ each_range f a.n
