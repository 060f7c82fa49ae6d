-- A test before others. Assumes nothing.
use mathlib.Core.Path.{◌≡◌}
use mathlib.Core.Bool.{Bool, true, false, ◌&&◌}

-- one that holds, before others that come to y
pub past : {t x y : Bool} → t ≡ true → y ≡ x → y ≡ t && x
past e h = rw e h

-- one that fails, before others
pub stops : {t : Bool} (x : Bool) → t ≡ false → false ≡ t && x
stops x e = rw e
