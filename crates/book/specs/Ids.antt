-- A SecurityID (document 01, "Fields": 48): 1 to 18 digits, at least 1.
use Rattle.std.specs.Prelude.{Bool, ◌&&◌, ℕ, leb}

abbrev pub most_id : ℕ
most_id = 999999999999999999

abbrev pub id_fine : ℕ → Bool
id_fine d = leb 1 d && leb d most_id
