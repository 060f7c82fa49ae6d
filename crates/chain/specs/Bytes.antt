-- Fields as bytes: what the chain of fields reads, written. Assumes nothing.
use Rattle.std.specs.Prelude.{ℕ, List, [], ◌∷◌, ◌++◌, Bool, true, ◌&&◌, leb, length}
use Rattle.text.specs.Text.{decimal, free}
use Rattle.chain.specs.Fields.{Field}

-- the tag, '=' (61), the value, SOH (1)
unfoldable pub field_bytes : Field → List ℕ
field_bytes f = decimal f.tag ++ (61 ∷ (f.text ++ (1 ∷ [])))

-- one field after another
unfoldable pub bytes_of : List Field → List ℕ
bytes_of [] = []
bytes_of (f ∷ fs) = field_bytes f ++ bytes_of fs

-- what may be written as a field: a tag of 1 to 99,999, a value of at least one byte without SOH
unfoldable pub fair : Field → Bool
fair f = (leb 1 f.tag && leb f.tag 99999) && (leb 1 (length f.text) && free 1 f.text)

abbrev pub all_fair : List Field → Bool
all_fair [] = true
all_fair (f ∷ fs) = fair f && all_fair fs
