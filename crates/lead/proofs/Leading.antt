-- What leads to the entries: nothing does at the end, and what is led to may be said in other words. Assumes nothing.
use Rattle.std.specs.Prelude.{Option, Some, None}
use mathlib.Core.Path.{◌≡◌, refl, sym, ap, ◌∙◌}
use mathlib.Core.List.{List, []}
use Prim.Native.Nat.{ℕ}
use native.Mathlib.Omega.{arith}
use lib.ListN.{length}
use Rattle.message.specs.Message.{Told}
use Rattle.message.specs.declared.Kind.{Kind}
use Rattle.chain.specs.Places.{left}
use Rattle.chain.proofs.Walk.{walked}
use Rattle.position.specs.Positions.{firsts, Fair}
use Rattle.position.specs.declared.Top.{Top}
use Rattle.group.specs.Listed.{grouped}
use Rattle.group.proofs.Grouping.{group_start, at_end_lem}
use Rattle.lead.specs.Leads.{told_by, Leads}
use Rattle.lead.specs.declared.Lead.{Lead}

-- nothing leads to a message
pub leads_none : {s : List ℕ} {l e : Option Lead} {f : ℕ → Option Told} → l ≡ None → e ≡ None → ((depth : ℕ) → f depth ≡ None) → Leads s l e f
leads_none q r g = rw q (record { exact = sym r; fair = tt; few = tt; says = λ depth. sym (g depth) })

-- a message without a group
none_grouped : (depth : ℕ) (t : Top) (s : List ℕ) → grouped depth t 0 (left s (length s)) ≡ Some []
none_grouped depth t s =
    ap (grouped depth t 0) (walked s (length s) (omega arith)) ∙ group_start depth t 0 [] ∙ at_end_lem depth t 0 firsts [] refl

pub leads_alone : (s : List ℕ) (k : Kind) (t : Top) (e : Option Lead) (f : ℕ → Option Told) → Fair t → e ≡ Some (record { kind = k; top = t; at = length s; count = 0 })
    → ((depth : ℕ) → f depth ≡ Some (told_by k t [])) → Leads s (Some (record { kind = k; top = t; at = length s; count = 0 })) e f
leads_alone s k t e f h q g = record { exact = sym q; fair = h; few = omega arith; says = λ depth. rw (none_grouped depth t s) (sym (g depth)) }

-- in other words
pub leads_as : {s : List ℕ} {l d e : Option Lead} {f : ℕ → Option Told} → Leads s l d f → d ≡ e → (g : ℕ → Option Told)
    → ((depth : ℕ) → f depth ≡ g depth) → Leads s l e g
leads_as h p g q = record { exact = h.exact ∙ p; fair = h.fair; few = h.few; says = λ depth. h.says depth ∙ q depth }
