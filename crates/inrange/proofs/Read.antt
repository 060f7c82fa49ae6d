-- Whatever the bytes, the message that they are lies in document 01's ranges. Assumes nothing.
use Rattle.std.specs.Prelude.{Option, Some, None, Result, Ok, Err}
use mathlib.Core.Path.{◌≡◌, refl}
use mathlib.Core.Bool.{Bool, true, false, cond, ◌&&◌}
use mathlib.Core.List.{List, [], ◌∷◌}
use Prim.Native.Nat.{ℕ, suc, ◌≤◌}
use native.Mathlib.Omega.{arith}
use borrow.Author.Tests.{le-leb, leb-true, eqb-true}
use lib.Dec.{leb, eqb}
use lib.ListN.{length}
use Rattle.digits.proofs.Width.{both}
use Rattle.book.specs.declared.Update.{Update}
use Rattle.message.specs.Message.{Message, snapshot}
use Rattle.board.specs.Ranges.{all, within, most_number, id_fine, moment_fine, head_fine, shown_fine, said_fine, message_fine}
use Rattle.chain.specs.Fields.{Field}
use Rattle.frame.specs.Frames.{frame_of, body_of}
use Rattle.frame.specs.declared.Framed.{Framed}
use Rattle.frame.specs.declared.FrameError.{FrameError}
use Rattle.tags.specs.Tags.{named_tags, other_tags, head_x, head_w, entry_x, entry_w, tidy, all_tidy, up_to, past, parts, lookup}
use Rattle.values.specs.Values.{Values, seq_at, heard_at, instrument_of, last_at, loops_at, count_at}
use Rattle.entries.specs.Entries.{entry_in_x, entry_in_w}
use Rattle.position.specs.Positions.{firsts}
use Rattle.group.specs.Groups.{group_of, onto, each, running}
use Rattle.lead.specs.Messages.{other_of, changes_of, head_of, snapshot_of, or_bad_fields, typed_as}
use Rattle.fields.specs.Messages.{framed_as, message_in}
use Rattle.inrange.specs.InRange.{ReadInRange}
use Rattle.inrange.proofs.Okay.{okay, bind, needed, and_both}
use Rattle.inrange.proofs.Entries.{whole_okay, heard_okay, instrument_okay, x_okay, w_okay}

-- ---- all entries
each_fine : (q : Update → Bool) (f : Values → Option (Option Update)) → ((v : Values) → okay (okay q) (f v) ≡ true)
    → (es : List (List Field)) → okay (all q) (each f es) ≡ true
unfolding each
each_fine q f h [] = refl
each_fine q f h (e ∷ es) =
    bind (okay q) (all q) (f (lookup e)) _ (h (lookup e))
    (λ u hu. bind (all q) (all q) (each f es) _ (each_fine q f h es) (λ us hus. go u us hu hus))
  where
    go : (u : Option Update) (us : List Update) → okay q u ≡ true → all q us ≡ true → all q (onto u us) ≡ true
    go None us a b = b
    go (Some u) us a b = rw (a, b)

each_few : (f : Values → Option (Option Update)) (n : ℕ) (es : List (List Field)) → length es ≤ n → okay (λ us. leb (length us) n) (each f es) ≡ true
unfolding each
each_few f n [] l = le-leb 0 n (omega arith)
each_few f n (e ∷ es) l =
    bind (λ u. true) (λ us. leb (length us) n) (f (lookup e)) _ (any (f (lookup e)))
    (λ u hu. bind (λ us. leb (length us) (length es)) (λ us. leb (length us) n) (each f es) _ (each_few f (length es) es (omega arith))
    (λ us h. go u us (leb-true (length us) (length es) h)))
  where
    any : (o : Option (Option Update)) → okay (λ u. true) o ≡ true
    any None = refl
    any (Some u) = refl

    go : (u : Option Update) (us : List Update) → length us ≤ length es → leb (length (onto u us)) n ≡ true
    go None us k = le-leb (length us) n (omega arith)
    go (Some u) us k = le-leb (suc (length us)) n (omega arith)

-- ---- the group has at most 64 entries
group_few : (first : ℕ) (ours : List ℕ) (body : List Field) → okay (λ es. leb (length es) 64) (group_of first ours body) ≡ true
unfolding group_of
group_few first ours body =
    let ps = parts first (past 268 body) in
    let rest = tidy named_tags [] (up_to first (past 268 body)) && all_tidy named_tags ours ps in
    bind (within 0 64) (λ es. leb (length es) 64) (count_at (lookup body)) _ (whole_okay 268 2 0 64 (lookup body))
    (λ n hn. needed (λ es. leb (length es) 64) (eqb (length ps) n && rest) (Some ps)
    (λ h. let e = eqb-true (length ps) n (both (eqb (length ps) n) rest h).0 in
    rw e (both (leb 0 n) (leb n 64) hn).1))

-- ---- X
abbrev fits : (Update → Bool) → List Update → Bool
fits q us = leb (length us) 64 && all q us

each_fits : (q : Update → Bool) (f : Values → Option (Option Update)) → ((v : Values) → okay (okay q) (f v) ≡ true)
    → (es : List (List Field)) → leb (length es) 64 ≡ true → okay (fits q) (each f es) ≡ true
each_fits q f h es l =
    and_both (λ us. leb (length us) 64) (all q) (each f es) (each_few f 64 es (leb-true (length es) 64 l)) (each_fine q f h es)

x_fine : (depth : ℕ) (body : List Field) → okay (message_fine depth) (changes_of depth body) ≡ true
unfolding changes_of message_fine
x_fine depth body =
    let v = lookup (up_to 268 body) in
    needed (message_fine depth) (tidy named_tags head_x (up_to 268 body)) _
    (λ _. bind (within 1 most_number) (message_fine depth) (seq_at v) _ (whole_okay 34 10 1 most_number v)
    (λ n hn. bind moment_fine (message_fine depth) (heard_at v) _ (heard_okay v)
    (λ at ha. bind (λ es. leb (length es) 64) (message_fine depth) (group_of 279 entry_x body) _ (group_few 279 entry_x body)
    (λ es he. bind (fits (said_fine depth)) (message_fine depth) (each (entry_in_x depth) es) _ (each_fits (said_fine depth) (entry_in_x depth) (x_okay depth) es he)
    (λ us hu. rw (hn, ha) hu)))))

-- ---- W
head_fine_lem : (v : Values) → okay head_fine (head_of v) ≡ true
unfolding head_of head_fine
head_fine_lem v =
    bind (within 1 most_number) head_fine (seq_at v) _ (whole_okay 34 10 1 most_number v)
    (λ n hn. bind moment_fine head_fine (heard_at v) _ (heard_okay v)
    (λ at ha. bind id_fine head_fine (instrument_of v) _ (instrument_okay v)
    (λ id hi. bind (within 0 most_number) head_fine (last_at v) _ (whole_okay 369 10 0 most_number v)
    (λ last hl. bind (within 1 most_number) head_fine (loops_at v) _ (whole_okay 911 10 1 most_number v)
    (λ loops ho. rw (hn, ha, hi, (both (leb 0 last) (leb last most_number) hl).1, ho))))))

w_fine : (depth : ℕ) (body : List Field) → okay (message_fine depth) (snapshot_of depth body) ≡ true
unfolding snapshot_of message_fine
w_fine depth body =
    let v = lookup (up_to 268 body) in
    needed (message_fine depth) (tidy named_tags head_w (up_to 268 body)) _
    (λ _. bind head_fine (message_fine depth) (head_of v) _ (head_fine_lem v)
    (λ h hh. bind (λ es. leb (length es) 64) (message_fine depth) (group_of 269 entry_w body) _ (group_few 269 entry_w body)
    (λ es he. bind (fits (shown_fine depth)) (message_fine depth) (each (entry_in_w depth h.id) es) _ (each_fits (shown_fine depth) (entry_in_w depth h.id) (w_okay depth h.id) es he)
    (λ us hu. needed (message_fine depth) (running firsts us) (Some (snapshot h us)) (λ _. rw hh hu)))))

-- ---- the others
o_fine : (depth : ℕ) (body : List Field) → okay (message_fine depth) (other_of body) ≡ true
unfolding other_of message_fine
o_fine depth body =
    let v = lookup (up_to 268 body) in
    needed (message_fine depth) (tidy other_tags head_x (up_to 268 body) && tidy other_tags [] (past 268 body)) _
    (λ _. bind (within 1 most_number) (message_fine depth) (seq_at v) _ (whole_okay 34 10 1 most_number v)
    (λ n hn. bind moment_fine (message_fine depth) (heard_at v) _ (heard_okay v) (λ at ha. rw (hn, ha))))

-- ---- the whole message
typed_fine : (depth kind : ℕ) (body : List Field) → okay (message_fine depth) (typed_as depth kind body) ≡ true
unfolding typed_as
typed_fine depth kind body = go (eqb kind 88) (eqb kind 87)
  where
    go : (x w : Bool) → okay (message_fine depth) (cond x (changes_of depth body) (cond w (snapshot_of depth body) (other_of body))) ≡ true
    go true w = x_fine depth body
    go false true = w_fine depth body
    go false false = o_fine depth body

or_bad : (depth : ℕ) (o : Option Message) → okay (message_fine depth) o ≡ true → message_fine depth (or_bad_fields o) ≡ true
unfolding or_bad_fields message_fine
or_bad depth None h = refl
or_bad depth (Some m) h = h

pub read_in_range : ReadInRange
unfolding message_in message_fine
read_in_range depth s = go (frame_of s)
  where
    go : (f : Result Framed FrameError) → message_fine depth (framed_as depth s f) ≡ true
    go (Ok f) = or_bad depth (typed_as depth f.kind (body_of s)) (typed_fine depth f.kind (body_of s))
    go (Err FrameError.BadFrame) = refl
    go (Err FrameError.BadSum) = refl
    go (Err FrameError.BadType) = refl
