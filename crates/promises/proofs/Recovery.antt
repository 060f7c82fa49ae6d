-- Demand 3 over bytes and calls, from demand 3 over messages and channels. Assumes nothing.
use mathlib.Core.Path.{◌≡◌, refl, sym, ap, subst, ◌∙◌}
use mathlib.Core.Bool.{true}
use mathlib.Core.List.{List, [], ◌∷◌, map}
use Prim.Native.Nat.{ℕ}
use Rattle.book.specs.Rules.{Lists}
use Rattle.book.specs.declared.Update.{Update}
use Rattle.board.specs.Calls.{Call}
use Rattle.loops.specs.Channel.{Channel, given}
use Rattle.loops.specs.Calls.{called, calls, Throughout, opened_channel}
use Rattle.loops.specs.Demand.{RightBy, FairBy}
use Rattle.loops.proofs.Demand.{demand3, recovers}
use Rattle.loops.proofs.Keeping.{given_same}
use Rattle.loops.proofs.Lowering.{Ranged}
use Rattle.fields.specs.Messages.{message_in}
use Rattle.inrange.proofs.Read.{read_in_range}
use Rattle.store.specs.Meaning.{channel_at}
use Rattle.sound.specs.Sound.{sound}
use Rattle.opening.specs.Opening.{open_answer, open_store}
use Rattle.opening.proofs.Laws.{opens_is, opened_is_sound, opened_is_channel}
use Rattle.feed.specs.Feeding.{fed}
use Rattle.feed.proofs.Laws.{feed_keeps_sound, feed_is_channel}
use Rattle.promises.specs.Acts.{Act, feeds, reads, left, lefts, Along, call_of}
use Rattle.promises.specs.Recovery.{read_in, Supposed, RecoversStream, SupposedLess, RecoversTruth}

-- ---- a store xs with the channel c of a depth kind
pub record Holds (depth : ℕ) (xs : List ℕ) (c : Channel) : Type 0 where
  pub sound : sound xs ≡ true
  pub same : channel_at xs ≡ c
  pub kind : c.board.depth ≡ depth

pub after : (depth : ℕ) (a : Act) (xs : List ℕ) (c : Channel) → Holds depth xs c → Holds depth (left a xs) (called (call_of depth a) c).channel
unfolding fed
after depth (feeds bytes) xs c h =
    record {
      sound = feed_keeps_sound bytes xs h.sound;
      same =
          feed_is_channel bytes xs h.sound ∙ ap (λ (k : Channel). (given (message_in k.board.depth bytes) k).channel) h.same
          ∙ ap (λ (n : ℕ). (given (message_in n bytes) c).channel) h.kind;
      kind = (given_same (message_in depth bytes) c).depth ∙ h.kind;
    }
after depth reads xs c h = h

-- P of a call on a store, Q of that call on its channel
module _ (depth : ℕ) (P : Act → List ℕ → Type 0) (Q : Call → Channel → Type 0) where
  pub along : ((a : Act) (xs : List ℕ) (c : Channel) → channel_at xs ≡ c → P a xs → Q (call_of depth a) c)
      → (cs : List Act) (xs : List ℕ) (c : Channel) → Holds depth xs c → Along P cs xs → Throughout Q (map (call_of depth) cs) c
  along f [] xs c h p = tt
  along f (a ∷ cs) xs c h p =
      (f a xs c h.same p.0, along f cs (left a xs) (called (call_of depth a) c).channel (after depth a xs c h) p.1)

  pub back : ((a : Act) (xs : List ℕ) (c : Channel) → channel_at xs ≡ c → Q (call_of depth a) c → P a xs)
      → (cs : List Act) (xs : List ℕ) (c : Channel) → Holds depth xs c → Throughout Q (map (call_of depth) cs) c → Along P cs xs
  back f [] xs c h p = tt
  back f (a ∷ cs) xs c h p =
      (f a xs c h.same p.0, back f cs (left a xs) (called (call_of depth a) c).channel (after depth a xs c h) p.1)

pub holds : (depth : ℕ) (cs : List Act) (xs : List ℕ) (c : Channel) → Holds depth xs c → Holds depth (lefts cs xs) (calls (map (call_of depth) cs) c)
holds depth [] xs c h = h
holds depth (a ∷ cs) xs c h = holds depth cs (left a xs) (called (call_of depth a) c).channel (after depth a xs c h)

pub ends : (depth : ℕ) (cs : List Act) (xs : List ℕ) (c : Channel) → Holds depth xs c → channel_at (lefts cs xs) ≡ calls (map (call_of depth) cs) c
ends depth cs xs c h = (holds depth cs xs c h).same

pub starts : (depth : ℕ) (ids xs : List ℕ) → open_answer depth ids xs ≡ 0 → Holds depth (open_store depth ids xs) (opened_channel depth ids)
starts depth ids xs e = record { sound = opened_is_sound depth ids xs e; same = opened_is_channel depth ids xs e; kind = refl }

-- every message is in range
ranged_one : (depth : ℕ) (a : Act) (c : Channel) → c.board.depth ≡ depth → Ranged (call_of depth a) c
ranged_one depth (feeds bytes) c k = rw k (read_in_range depth bytes)
ranged_one depth reads c k = tt

pub ranged : (depth : ℕ) (cs : List Act) (xs : List ℕ) (c : Channel) → Holds depth xs c → Throughout Ranged (map (call_of depth) cs) c
ranged depth [] xs c h = tt
ranged depth (a ∷ cs) xs c h =
    (ranged_one depth a c h.kind, ranged depth cs (left a xs) (called (call_of depth a) c).channel (after depth a xs c h))

-- ---- demand 3
pub right_of : (depth : ℕ) (stream : List (List ℕ)) (d : ℕ) (a : Act) (xs : List ℕ) (c : Channel) → channel_at xs ≡ c
    → Supposed depth stream d a xs → RightBy (read_in depth stream) d (call_of depth a) c
right_of depth stream d (feeds bytes) xs c q p = subst (RightBy (read_in depth stream) d (call_of depth (feeds bytes))) q p
right_of depth stream d reads xs c q p = (tt, tt)

pub right_back : (depth : ℕ) (stream : List (List ℕ)) (d : ℕ) (a : Act) (xs : List ℕ) (c : Channel) → channel_at xs ≡ c
    → RightBy (read_in depth stream) d (call_of depth a) c → Supposed depth stream d a xs
right_back depth stream d (feeds bytes) xs c q p = subst (RightBy (read_in depth stream) d (call_of depth (feeds bytes))) (sym q) p
right_back depth stream d reads xs c q p = tt

pub recovers_stream : RecoversStream
recovers_stream depth stream n d w ids xs e cs p l =
    let h = starts depth ids xs e in
    let s = open_store depth ids xs in
    let c = opened_channel depth ids in
    let q = ap (λ (k : Channel). k.board) (ends depth cs s c h) in
    rw q
    (demand3 (read_in depth stream) n d w depth ids (opens_is depth ids xs e) (map (call_of depth) cs) (ranged depth cs s c h)
    (along depth (Supposed depth stream d) (RightBy (read_in depth stream) d) (right_of depth stream d) cs s c h p)
    (rw q at l))

fair_of : (depth d : ℕ) (s : ℕ → List Update) (t : ℕ → Lists) (a : Act) (xs : List ℕ) (c : Channel) → channel_at xs ≡ c
    → SupposedLess depth d s t a xs → FairBy d s t (call_of depth a) c
fair_of depth d s t (feeds bytes) xs c q p = subst (FairBy d s t (call_of depth (feeds bytes))) q p
fair_of depth d s t reads xs c q p = (tt, tt)

pub recovers_truth : RecoversTruth
recovers_truth d s t w depth ids xs e cs p l =
    let h = starts depth ids xs e in
    let o = open_store depth ids xs in
    let c = opened_channel depth ids in
    let q = ap (λ (k : Channel). k.board) (ends depth cs o c h) in
    rw q
    (recovers d s t w depth ids (opens_is depth ids xs e) (map (call_of depth) cs) (ranged depth cs o c h)
    (along depth (SupposedLess depth d s t) (FairBy d s t) (fair_of depth d s t) cs o c h p)
    (rw q at l))
