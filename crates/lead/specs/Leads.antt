-- What stands before the entries as the code reads it, and what it leads to. Assumes nothing.
use Rattle.std.specs.Prelude.{Option, Some, None, Ok}
use Rattle.std.specs.Prelude.{ℕ, ◌≤◌, ◌≡◌, List, [], ◌∷◌, length}
use Rattle.book.specs.declared.Update.{Update}
use Rattle.message.specs.Message.{Message, Told, told}
use Rattle.message.specs.declared.Kind.{Kind}
use Rattle.message.specs.declared.Kind.TheVariants.{Numbered, Snapshot}
use Rattle.digits.specs.Digits.{ranged_of}
use Rattle.chain.specs.Fields.{Field}
use Rattle.chain.specs.Places.{left}
use Rattle.values.specs.Values.{◌>>=◌, Values, seq_at, heard_at, instrument_of, last_at, loops_at}
use Rattle.position.specs.Positions.{Fair}
use Rattle.group.specs.Listed.{grouped}
use Rattle.position.specs.declared.Top.{Top}
use Rattle.lead.specs.Messages.{changes_of, snapshot_of}
use Rattle.lead.specs.declared.Lead.{Lead}

-- What stands before the group of an X, and of a W.
unfoldable pub top_x : Values → Option Top
top_x v =
    seq_at v >>= λ n.
    heard_at v >>= λ heard.
    Some (record { first = 279; low = 8; number = n; heard = heard; id = 0; last = 0; loops = 0 })

unfoldable pub top_w : Values → Option Top
top_w v =
    top_x v >>= λ t.
    instrument_of v >>= λ id.
    last_at v >>= λ last.
    loops_at v >>= λ loops.
    Some (record { first = 269; low = 12; number = t.number; heard = t.heard; id = id; last = last; loops = loops })

abbrev pub top_by : Kind → Values → Option Top
top_by Numbered v = top_x v
top_by Snapshot v = top_w v

-- The slot up to which tags may stand there.
abbrev pub head_end : Kind → ℕ
head_end Numbered = 6
head_end Snapshot = 11

-- What the fields between 35 and 10 of an X say, and of a W.
abbrev pub body_by : Kind → ℕ → List Field → Option Message
body_by Numbered depth fs = changes_of depth fs
body_by Snapshot depth fs = snapshot_of depth fs

-- What is told of a message, where there is one.
abbrev pub telling : Option Message → Option Told
telling None = None
telling (Some m) = Some (told m)

-- What is told of a message of this kind and what stands before some entries, with them.
abbrev pub told_by : Kind → Top → List Update → Told
told_by kind t us =
    record {
      reading = Ok (record { kind = kind; number = t.number; heard = t.heard; id = t.id; last = t.last; loops = t.loops; count = length us });
      entries = us;
    }

-- The group from 268 on.
unfoldable pub counted : ℕ → Top → List Field → Option (List Update)
counted depth t [] = None
counted depth t (f ∷ fs) = ranged_of 2 0 64 f.text >>= λ n. grouped depth t n fs

abbrev pub group_said : Kind → ℕ → Top → List Field → Option Told
group_said kind depth t fs = counted depth t fs >>= λ us. Some (told_by kind t us)

-- What is told by what is led to, on a channel of a depth kind.
abbrev pub led : ℕ → List ℕ → Option Lead → Option Told
led depth s None = None
led depth s (Some l) = grouped depth l.top l.count (left s l.at) >>= λ us. Some (told_by l.kind l.top us)

-- The entries can be told apart.
abbrev pub FairLead : Option Lead → Type 0
FairLead None = Unit {0}
FairLead (Some l) = Fair l.top

-- 268 says at most 64.
abbrev pub Few : Option Lead → Type 0
Few None = Unit {0}
Few (Some l) = l.count ≤ 64

-- What leads to the entries of fields is e, and what it leads to, on a channel of each depth kind, is f.
pub record Leads (s : List ℕ) (l e : Option Lead) (f : ℕ → Option Told) : Type 0 where
  pub exact : l ≡ e
  pub fair : FairLead l
  pub few : Few l
  pub says : (depth : ℕ) → led depth s l ≡ f depth
