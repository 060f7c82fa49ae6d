-- The numbers that hold an order id, a word of up to 8 bytes each. Assumes nothing.
use Rattle.std.specs.Prelude.{ℕ, Bool, ◌&&◌, ◌||◌, leb, eqb}

-- the greatest word of 8 bytes
abbrev pub top : ℕ
top = 6161234432565770

-- the least word of 8 bytes
abbrev pub full : ℕ
full = 65545047154955

-- two numbers hold an id: a second word stands only after a first of 8 bytes
abbrev pub id_sound : ℕ → ℕ → Bool
id_sound a b = (leb 1 a && leb a top) && (eqb b 0 || (leb full a && leb b top))
