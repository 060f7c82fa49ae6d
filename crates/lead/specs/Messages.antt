-- What the fields between 35 and 10 say, by the type of the message (document 01, "Fields"). Assumes nothing.
use Rattle.std.specs.Prelude.{Option, Some, None}
use Rattle.std.specs.Prelude.{ℕ, List, [], cond, ◌&&◌, eqb}
use Rattle.message.specs.Message.{Head, Message, numbered, snapshot, refused}
use Rattle.message.specs.declared.Refusal.TheVariants.{BadFields}
use Rattle.chain.specs.Fields.{Field}
use Rattle.tags.specs.Tags.{named_tags, other_tags, head_x, head_w, entry_x, entry_w, tidy, up_to, past, lookup}
use Rattle.values.specs.Values.{◌>>=◌, need, Values, seq_at, heard_at, instrument_of, last_at, loops_at}
use Rattle.entries.specs.Entries.{entry_in_x, entry_in_w}
use Rattle.position.specs.Positions.{firsts}
use Rattle.group.specs.Groups.{group_of, each, running}

-- 0, f, y, B only carry a number and a time: 34 and 52 once each, before any 268.
unfoldable pub other_of : List Field → Option Message
other_of body =
    need (tidy other_tags head_x (up_to 268 body) && tidy other_tags [] (past 268 body))
    (seq_at (lookup (up_to 268 body)) >>= λ n.
    heard_at (lookup (up_to 268 body)) >>= λ heard.
    Some (numbered n heard []))

-- X
unfoldable pub changes_of : ℕ → List Field → Option Message
changes_of depth body =
    need (tidy named_tags head_x (up_to 268 body))
    (seq_at (lookup (up_to 268 body)) >>= λ n.
    heard_at (lookup (up_to 268 body)) >>= λ heard.
    group_of 279 entry_x body >>= λ es.
    each (entry_in_x depth) es >>= λ us.
    Some (numbered n heard us))

-- W also needs 48, 22, 369, 911 before 268, where 207 may stand too.
unfoldable pub head_of : Values → Option Head
head_of v =
    seq_at v >>= λ n.
    heard_at v >>= λ heard.
    instrument_of v >>= λ id.
    last_at v >>= λ last.
    loops_at v >>= λ loops.
    Some (record { number = n; heard = heard; id = id; last = last; loops = loops })

unfoldable pub snapshot_of : ℕ → List Field → Option Message
snapshot_of depth body =
    need (tidy named_tags head_w (up_to 268 body))
    (head_of (lookup (up_to 268 body)) >>= λ h.
    group_of 269 entry_w body >>= λ es.
    each (entry_in_w depth h.id) es >>= λ us.
    need (running firsts us) (Some (snapshot h us)))

-- By the type: X (88), W (87), or another.
unfoldable pub typed_as : ℕ → ℕ → List Field → Option Message
typed_as depth kind body = cond (eqb kind 88) (changes_of depth body) (cond (eqb kind 87) (snapshot_of depth body) (other_of body))

-- Any breach under "Fields" is 14.
unfoldable pub or_bad_fields : Option Message → Message
or_bad_fields None = refused BadFields
or_bad_fields (Some m) = m
