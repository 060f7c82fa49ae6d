-- Where tags may stand (document 01, "Fields": the rules of place in the second paragraph). Assumes nothing.
use Rattle.std.specs.Prelude.{ℕ, List, [], ◌∷◌, ◌++◌, Bool, true, false, cond, not, ◌&&◌, ◌||◌, eqb}
use Rattle.chain.specs.Fields.{Field}

-- 8, 9, 35 and 10 stand once: none of them among the fields between 35 and 10.
abbrev pub frame_tags : List ℕ
frame_tags = 8 ∷ 9 ∷ 35 ∷ 10 ∷ []

-- What may stand before 268: in W, and in X and the other types.
abbrev pub head_x : List ℕ
head_x = 34 ∷ 52 ∷ []

abbrev pub head_w : List ℕ
head_w = 34 ∷ 52 ∷ 369 ∷ 911 ∷ 48 ∷ 22 ∷ 207 ∷ []

-- Entry tags: 269, 270, 271, 37, 346, 272, 273, 290, and in X also 279, 48, 22, 207.
abbrev pub entry_w : List ℕ
entry_w = 269 ∷ 270 ∷ 271 ∷ 37 ∷ 346 ∷ 272 ∷ 273 ∷ 290 ∷ []

abbrev pub entry_x : List ℕ
entry_x = 48 ∷ 22 ∷ 207 ∷ 279 ∷ entry_w

-- The tags named under "Fields" in X and W; in other types the rules hold for 34 and 52 only.
abbrev pub named_tags : List ℕ
named_tags = frame_tags ++ (34 ∷ 52 ∷ 369 ∷ 911 ∷ entry_x) ++ (268 ∷ [])

abbrev pub other_tags : List ℕ
other_tags = frame_tags ++ head_x

-- A tag is one of these.
unfoldable pub has : ℕ → List ℕ → Bool
has t [] = false
has t (u ∷ us) = eqb u t || has t us

-- A field with the tag is among these.
unfoldable pub stands : ℕ → List Field → Bool
stands t [] = false
stands t (f ∷ fs) = eqb f.tag t || stands t fs

-- A place of the message: of the named tags only ours stand in it, and none of them twice. Other tags are passed over.
unfoldable pub tidy : List ℕ → List ℕ → List Field → Bool
tidy named ours [] = true
tidy named ours (f ∷ fs) = (not (has f.tag named) || (has f.tag ours && not (stands f.tag fs))) && tidy named ours fs

-- The fields before the first with a tag, those after it, and those from it on.
unfoldable pub up_to : ℕ → List Field → List Field
up_to t [] = []
up_to t (f ∷ fs) = cond (eqb f.tag t) [] (f ∷ up_to t fs)

unfoldable pub past : ℕ → List Field → List Field
past t [] = []
past t (f ∷ fs) = cond (eqb f.tag t) fs (past t fs)

unfoldable pub onward : ℕ → List Field → List Field
onward t [] = []
onward t (f ∷ fs) = cond (eqb f.tag t) (f ∷ fs) (onward t fs)

-- The entries of a group: each begins with the first tag and goes up to the next.
unfoldable pub parts : ℕ → List Field → List (List Field)
parts t [] = []
parts t (f ∷ fs) = cond (eqb f.tag t) ((f ∷ up_to t fs) ∷ parts t fs) (parts t fs)

unfoldable pub all_tidy : List ℕ → List ℕ → List (List Field) → Bool
all_tidy named ours [] = true
all_tidy named ours (e ∷ es) = tidy named ours e && all_tidy named ours es

-- The value of the first field with a tag; where there is none it is no bytes, which no field's value is.
unfoldable pub lookup : List Field → ℕ → List ℕ
lookup [] t = []
lookup (f ∷ fs) t = cond (eqb f.tag t) f.text (lookup fs t)
