-- The laws of sound stores.
use mathlib.Core.Path.{◌≡◌, refl, sym, ap, ◌∙◌}
use mathlib.Core.Bool.{Bool, true, false}
use mathlib.Core.List.{List, [], ◌∷◌, ◌++◌, append-nil}
use Prim.Native.Nat.{ℕ, ◌≤◌, ◌<◌}
use native.Mathlib.Omega.{arith}
use lib.Dec.{leb, eqb}
use lib.ListN.{length, get_or, take, length-append, get_or-append}
use lib.Seq.{length-take-le, get_or-take, ext_get_or}
use borrow.Author.Tests.{leb-true, le-leb, eqb-true, eq-eqb}
use Rattle.board.specs.Sound.{among}
use Rattle.board.proofs.Tested.{both, three, and_true}
use Rattle.loops.specs.Channel.{Channel}
use Rattle.loops.specs.Sound.{sound_loop, sound_channel, SoundChannel}
use Rattle.loops.proofs.Sounding.{tested_channel, channel_tested}
use Rattle.store.specs.Layout.{store_size, earlier_layouts}
use Rattle.store.proofs.Layouts.{new_number}
use Rattle.store.specs.Meaning.{channel_at, written}
use Rattle.scan.specs.Scan.{scan}
use Rattle.sound.specs.Sound.{same, sound}
use Rattle.sound.specs.Laws.{ScanIsSound, SoundIsWritten, WrittenLength, WrittenReadsBack, WrittenIsSound, SoundOnce, SoundIsCanon, SoundIsLooped, FormedIsSound, CanonIsSound, EarlierIsUnsound}
use Rattle.sound.proofs.Numbers.{length_written}
use Rattle.sound.proofs.Back.{Holds, channel_back, canon_back}
use Rattle.sound.proofs.Whole.{whole}
use Rattle.sound.proofs.Scanned.{scanned, scan_of}
use Rattle.sound.proofs.Facts.{scanned_sound, sound_scanned}

-- ---- the same numbers

same_is : (xs ys : List ℕ) → same xs ys ≡ true → xs ≡ ys
unfolding same
same_is [] [] e = refl
same_is [] (y ∷ ys) e = let z : ◌≡◌ {A = ℕ} 0 1 = cc in absurd (omega arith)
same_is (x ∷ xs) [] e = let z : ◌≡◌ {A = ℕ} 0 1 = cc in absurd (omega arith)
same_is (x ∷ xs) (y ∷ ys) e = let p = both (eqb x y) (same xs ys) e in cc (eqb-true x y p.0, same_is xs ys p.1)

is_same : (xs : List ℕ) → same xs xs ≡ true
unfolding same
is_same [] = refl
is_same (x ∷ xs) = and_true (eq-eqb x x refl) (is_same xs)

module _ (xs : List ℕ) (c : Channel) where
  holds_of : take store_size xs ≡ written c → Holds xs c
  holds_of e k l = sym (get_or-take store_size xs k 0 l) ∙ ap (λ (ys : List ℕ). get_or ys k 0) e

  taken : store_size ≤ length xs → Holds xs c → take store_size xs ≡ written c
  taken l h =
      let n : length (take store_size xs) ≡ store_size = length-take-le store_size xs l in
      ext_get_or 0 (take store_size xs) (written c) (n ∙ sym (length_written c)) (λ k o.
      let p : k < store_size = omega arith in
      get_or-take store_size xs k 0 p ∙ h k p)

-- ---- a sound store

pub record Parts (xs : List ℕ) : Type 0 where
  pub long : store_size ≤ length xs
  pub channel : SoundChannel (channel_at xs)
  pub numbers : take store_size xs ≡ written (channel_at xs)

pub parts : (xs : List ℕ) → sound xs ≡ true → Parts xs
unfolding sound
parts xs e =
    let p = three (leb store_size (length xs)) (sound_channel (channel_at xs)) (same (take store_size xs) (written (channel_at xs))) e in
    record {
      long = leb-true store_size (length xs) p.0;
      channel = tested_channel (channel_at xs) p.1;
      numbers = same_is (take store_size xs) (written (channel_at xs)) p.2;
    }

pub sound_is_written : SoundIsWritten
sound_is_written xs e = (parts xs e).numbers

pub sound_is_canon : SoundIsCanon
sound_is_canon xs e =
    let p = parts xs e in
    let b = p.channel.board in
    (canon_back xs (channel_at xs) (holds_of xs (channel_at xs) p.numbers) b p.long, b)

pub sound_is_looped : SoundIsLooped
sound_is_looped xs e = (parts xs e).channel.loop

pub formed_is_sound : FormedIsSound
unfolding sound
formed_is_sound xs f s l =
    and_true (le-leb store_size (length xs) f.long)
    (and_true (channel_tested (channel_at xs) (record { board = s; loop = l }))
    (rw (taken xs (channel_at xs) f.long (whole xs f)) (is_same (written (channel_at xs)))))

pub canon_is_sound : CanonIsSound
canon_is_sound xs c s l = formed_is_sound xs c.formed s l

pub sound_once : SoundOnce
sound_once xs ys e f b = sound_is_written xs e ∙ ap written b ∙ sym (sound_is_written ys f)

-- ---- a sound channel

pub written_length : WrittenLength
written_length = length_written

module _ (c : Channel) (ys : List ℕ) where
  holds_written : Holds (written c ++ ys) c
  holds_written k l = get_or-append (written c) ys 0 k (omega (arith, length_written c))

  long_written : store_size ≤ length (written c ++ ys)
  long_written = omega (arith, length-append (written c) ys, length_written c)

pub written_reads_back : WrittenReadsBack
written_reads_back c ys e = channel_back (written c ++ ys) c (holds_written c ys) (tested_channel c e).board

pub written_is_sound : WrittenIsSound
written_is_sound c ys e =
    let s = tested_channel c e in
    let b : channel_at (written c ++ ys) ≡ c = written_reads_back c ys e in
    canon_is_sound (written c ++ ys) (canon_back (written c ++ ys) c (holds_written c ys) s.board (long_written c ys))
    (rw (ap (λ (k : Channel). k.board) b) s.board)
    (ap (λ (k : Channel). sound_loop (length k.board.insts) k.loop) b ∙ s.loop)

-- the same with nothing behind the numbers
pub written_alone : (c : Channel) → sound_channel c ≡ true → channel_at (written c) ≡ c
written_alone c e = rw append-nil at (written_reads_back c [] e)

-- ---- the scan

bool_is : (a b : Bool) → (a ≡ true → b ≡ true) → (b ≡ true → a ≡ true) → a ≡ b
bool_is true true f g = refl
bool_is true false f g = sym (f refl)
bool_is false true f g = g refl
bool_is false false f g = refl

pub scan_is_sound : ScanIsSound
scan_is_sound xs =
    bool_is (scan xs) (sound xs)
    (λ e. let p = scanned_sound xs (scanned xs e) in canon_is_sound xs p.0 p.1 p.2)
    (λ e. let p = sound_is_canon xs e in scan_of xs (sound_scanned xs p.0.formed p.1 (sound_is_looped xs e)))

-- ---- earlier layouts

pub earlier_is_unsound : EarlierIsUnsound
earlier_is_unsound xs e = go (sound xs) refl
  where
    go : (t : Bool) → sound xs ≡ t → t ≡ false
    go true s = sym e ∙ ap (λ (n : ℕ). among n earlier_layouts) (sound_is_canon xs s).0.formed.layout ∙ new_number
    go false s = refl
