-- What no call changes: the depth kind, the SecurityIDs in their order, and so how many instruments there are and where each is found.
use mathlib.Core.Path.{◌≡◌, refl, ◌∙◌, ap}
use mathlib.Core.Bool.{Bool, true, false}
use mathlib.Core.List.{List, [], ◌∷◌, map}
use Prim.Native.Nat.{ℕ}
use lib.ListN.{length}
use Rattle.book.specs.declared.Update.{Update}
use Rattle.message.specs.Message.{numbered, snapshot, refused}
use Rattle.book.proofs.Tests.{by_test}
use Rattle.board.specs.Board.{any_waiting, Inst, Board, ids_of, look, at, put, settled}
use Rattle.board.specs.Count.{aimed, joined, gives, counted, count, clear, cleared}
use Rattle.board.specs.Snapshot.{shown}
use Rattle.board.specs.Feed.{feed}
use Rattle.board.specs.Calls.{Call, fed, aside, called, calls}
use Rattle.board.specs.Laws.{Same, FeedsSame}
use Rattle.board.proofs.Finding.{length_ids, look_ids}
use Rattle.board.proofs.Giving.{ids_put, gives_only, gives_ids}
use Rattle.board.proofs.Cases.{count_is, number_is, snap_is, take_is}

pub same : (b : Board) → Same b b
same b = record { depth = refl; ids = refl }

pub same_then : (b c d : Board) → Same b c → Same c d → Same b d
same_then b c d p q = record { depth = p.depth ∙ q.depth; ids = p.ids ∙ q.ids }

same_settled : (w : Bool) (b c : Board) → Same b c → Same (settled w b) c
same_settled false b c h = record { depth = h.depth; ids = h.ids }
same_settled true b c h = by_test (λ d. Same d c) (any_waiting b.insts) (λ _. h) (λ _. record { depth = h.depth; ids = h.ids })

pub same_gives : (us : List Update) (b : Board) → Same (gives us b) b
same_gives us b = record { depth = ap (λ (c : Board). c.depth) (gives_only us b); ids = gives_ids us b }

same_given : (w : Bool) (us : List Update) (b c : Board) → Same b c → Same (settled w (gives us b)) c
same_given w us b c h = same_settled w (gives us b) c (same_then (gives us b) b c (same_gives us b) h)

same_joined : (over : Bool) (n : ℕ) (us : List Update) (b : Board) → Same (joined over n us b) b
same_joined true n us b = record { depth = refl; ids = refl }
same_joined false n us b = record { depth = refl; ids = refl }

same_count : (a n heard : ℕ) (us : List Update) (b : Board) → Same (count a n heard us b).board b
same_count a n heard us b =
    let c = counted n heard b in
    count_is (λ o. Same o.board b) a n heard us b (λ _. same_given false us c b (record { depth = refl; ids = refl }))
    (λ over _. same_given true us (joined over n us c) b
    (same_then (joined over n us c) c b (same_joined over n us c) (record { depth = refl; ids = refl })))

pub ids_clear : (xs : List Inst) → ids_of (map clear xs) ≡ ids_of xs
ids_clear [] = refl
ids_clear (x ∷ xs) = ap (x.id ∷◌) (ids_clear xs)

same_put : (i : ℕ) (x : Inst) (b : Board) → x.id ≡ (at i b).id → Same (settled true (put i x b)) b
same_put i x b e = same_settled true (put i x b) b (record { depth = refl; ids = ids_put i x b e })

pub same_feed : FeedsSame
unfolding feed
same_feed (numbered n heard us) b =
    let vs = map (aimed b.insts) us in
    number_is (λ o. Same o.board b) n heard vs b (λ _ _. same b) (λ _. same_count 0 n heard vs b)
    (λ _. same_then _ (cleared n b) b (same_count 1 n heard vs (cleared n b)) (record { depth = refl; ids = ids_clear b.insts }))
same_feed (snapshot h us) b =
    let i = look h.id b.insts in
    snap_is (λ o. Same o.board b) h.id h.last (shown us) b (λ _ _ _. same b)
    (take_is (λ o. Same o.board b) i h.last (shown us) b (λ c _. same_put i _ b refl) (λ r _. same_put i _ b refl))
same_feed (refused why) b = same b

pub same_call : (c : Call) (b : Board) → Same (called c b).board b
same_call (fed m) b = same_feed m b
same_call (aside a) b = same b

pub same_calls : (cs : List Call) (b : Board) → Same (calls cs b) b
same_calls [] b = same b
same_calls (c ∷ cs) b = same_then _ (called c b).board b (same_calls cs (called c b).board) (same_call c b)

-- so there are as many instruments, and each is found where it was
pub same_length : (b c : Board) → Same b c → length b.insts ≡ length c.insts
same_length b c h = length_ids b.insts c.insts h.ids

pub same_look : (d : ℕ) (b c : Board) → Same b c → look d b.insts ≡ look d c.insts
same_look d b c h = look_ids d b.insts c.insts h.ids
