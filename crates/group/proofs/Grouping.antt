-- A group, entry by entry: what is left of it says what the whole says. Assumes nothing.
use Rattle.std.specs.Prelude.{Option, Some, None}
use mathlib.Core.Path.{◌≡◌, refl, sym, ap, ◌∙◌}
use mathlib.Core.List.{List, [], ◌∷◌, ◌++◌, append_assoc, append-nil}
use mathlib.Core.Bool.{Bool, true, false, cond, ◌&&◌, ◌||◌, and-false, or-true}
use Prim.Native.Nat.{ℕ, ◌+◌, ◌-◌}
use native.Mathlib.Omega.{arith}
use borrow.Author.Tests.{eq-eqb, ne_eqb}
use native.Mathlib.Numerals.{add-one}
use lib.Dec.{eqb, eqb-suc-suc, eqb-suc-zero}
use lib.ListN.{length}
use Rattle.book.specs.declared.Update.{Update}
use Rattle.chain.specs.Fields.{Field}
use Rattle.tags.specs.Tags.{named_tags, has, tidy, all_tidy, up_to, onward, parts, lookup}
use Rattle.tags.specs.Slots.{between}
use Rattle.values.specs.Values.{◌>>=◌, need}
use Rattle.position.specs.Positions.{next_on, next_after, firsts, entry_in, at_next, entry_next}
use Rattle.position.specs.declared.Next.{Next}
use Rattle.position.specs.declared.Top.{Top}
use Rattle.group.specs.Groups.{each, running}
use Rattle.group.specs.Listed.{ordered, grouped}

-- what follows a place begins with the tag that ended it
pub up_onward : (t : ℕ) (fs : List Field) → up_to t (onward t fs) ≡ []
unfolding up_to onward
up_onward t [] = refl
up_onward t (f ∷ fs) = go (eqb f.tag t) refl (up_onward t fs)
  where
    go : (z : Bool) → eqb f.tag t ≡ z → up_to t (onward t fs) ≡ [] → up_to t (cond z (f ∷ fs) (onward t fs)) ≡ []
    go true q i = rw q
    go false q i = i

parts_onward : (t : ℕ) (fs : List Field) → parts t (onward t fs) ≡ parts t fs
unfolding parts onward
parts_onward t [] = refl
parts_onward t (f ∷ fs) = go (eqb f.tag t) refl (parts_onward t fs)
  where
    go : (z : Bool) → eqb f.tag t ≡ z → parts t (onward t fs) ≡ parts t fs
        → parts t (cond z (f ∷ fs) (onward t fs)) ≡ cond z ((f ∷ up_to t fs) ∷ parts t fs) (parts t fs)
    go true q i = rw q
    go false q i = i

module _ (depth : ℕ) (t : Top) where
  abbrev ours : List ℕ
  ours = between t.low 20

  -- the entries of a group, their positions too
  unfoldable pub ran : Next → List (List Field) → Option (List Update)
  ran next ps = each (entry_in depth t) ps >>= λ us. need (ordered t next us) (Some us)

  -- those that are left, of which there are to be so many, after those that said us
  unfoldable pub closing : ℕ → Next → List Update → List (List Field) → Option (List Update)
  closing more next us ps = need (eqb (length ps) more && all_tidy named_tags ours ps) (ran next ps >>= λ ws. Some (us ++ ws))

  -- between two entries, or before the first
  unfoldable pub outside : ℕ → Next → List Update → List Field → Option (List Update)
  outside more next us fs = need (tidy named_tags [] (up_to t.first fs)) (closing more next us (parts t.first fs))

  -- in an entry that has begun with e
  unfoldable pub inside : ℕ → Next → List Update → List Field → List Field → Option (List Update)
  inside more next us e fs = closing (more + 1) next us ((e ++ up_to t.first fs) ∷ parts t.first fs)

  -- ---- the whole
  all_said : (o : Option (List Update)) → o >>= (λ ws. Some ws) ≡ o
  all_said None = refl
  all_said (Some us) = refl

  needs_and : (a b c : Bool) (o : Option (List Update)) → need (a && (b && c)) o ≡ need b (need (a && c) o)
  needs_and true true c o = refl
  needs_and true false c o = refl
  needs_and false true c o = refl
  needs_and false false c o = refl

  pub group_start : (n : ℕ) (fs : List Field) → grouped depth t n fs ≡ outside n firsts [] fs
  unfolding grouped outside closing ran
  group_start n fs =
      let ps = parts t.first fs in
      needs_and (eqb (length ps) n) (tidy named_tags [] (up_to t.first fs)) (all_tidy named_tags ours ps) (each (entry_in depth t) ps >>= λ us. need (ordered t firsts us) (Some us))
      ∙ rw (all_said (each (entry_in depth t) ps >>= λ us. need (ordered t firsts us) (Some us)))

  -- ---- outside an entry
  module _ (more : ℕ) (next : Next) (us : List Update) where
    pub at_end_lem : more ≡ 0 → outside more next us [] ≡ Some us
    unfolding outside closing ran up_to parts tidy all_tidy each ordered running
    at_end_lem q = rw (q, or-true, append-nil)

    pub too_few : (more ≡ 0 → ⊥) → outside more next us [] ≡ None
    unfolding outside closing up_to parts tidy
    too_few q = rw (ne_eqb 0 more (λ e. q (sym e)))

    module _ (f : Field) (fs : List Field) where
      -- a tag that is not named is passed over
      pub passed_over_lem : (f.tag ≡ t.first → ⊥) → has f.tag named_tags ≡ false → outside more next us (f ∷ fs) ≡ outside more next us fs
      unfolding outside up_to parts tidy
      passed_over_lem q h = rw (ne_eqb f.tag t.first q, h)

      -- a named one is a breach
      pub not_there : (f.tag ≡ t.first → ⊥) → has f.tag named_tags ≡ true → outside more next us (f ∷ fs) ≡ None
      unfolding outside up_to tidy has
      not_there q h = rw (ne_eqb f.tag t.first q, h)

      -- an entry more than 268 says
      pub too_many : f.tag ≡ t.first → more ≡ 0 → outside more next us (f ∷ fs) ≡ None
      unfolding outside closing up_to parts tidy
      too_many q z = rw (eq-eqb f.tag t.first q, z, eqb-suc-zero)

      -- an entry begins
      pub begins : f.tag ≡ t.first → (more ≡ 0 → ⊥) → outside more next us (f ∷ fs) ≡ inside (more - 1) next us (f ∷ []) fs
      unfolding outside inside up_to parts tidy
      begins q z =
          let e : more - 1 + 1 ≡ more = omega arith in
          rw (eq-eqb f.tag t.first q, e)

  -- ---- inside one
  module _ (more : ℕ) (next : Next) (us : List Update) (e fs : List Field) where
    -- it breaches a rule
    pub breaks : tidy named_tags ours (e ++ up_to t.first fs) ≡ false → inside more next us e fs ≡ None
    unfolding inside closing all_tidy
    breaks h = rw (h, and-false)

    -- it is walked up to its end
    pub walks : inside more next us e fs ≡ inside more next us (e ++ up_to t.first fs) (onward t.first fs)
    unfolding inside
    walks = rw (up_onward t.first fs, append-nil, parts_onward t.first fs)

  -- one entry more
  module _ (next : Next) (e : List Field) (ps : List (List Field)) where
    ran_bad : entry_in depth t (lookup e) ≡ None → ran next (e ∷ ps) ≡ None
    unfolding ran each
    ran_bad q = rw q

    ran_passed : entry_in depth t (lookup e) ≡ Some None → ran next (e ∷ ps) ≡ ran next ps
    unfolding ran each
    ran_passed q = rw q (go (each (entry_in depth t) ps))
      where
        go : (o : Option (List Update)) → (o >>= λ us. Some us) >>= (λ us. need (ordered t next us) (Some us)) ≡ o >>= λ us. need (ordered t next us) (Some us)
        go None = refl
        go (Some us) = refl

    ran_said : (u : Update) → entry_in depth t (lookup e) ≡ Some (Some u)
        → ran next (e ∷ ps) ≡ need (eqb t.first 279 || eqb u.place (next_on next u.what)) (ran (next_after next u.what) ps >>= λ us. Some (u ∷ us))
    unfolding ran each ordered running
    ran_said u q = rw q (go (eqb t.first 279) (each (entry_in depth t) ps))
      where
        nothing : (z : Bool) → ◌≡◌ {A = Option (List Update)} None (need z None)
        nothing true = refl
        nothing false = refl

        pick : (a b r : Bool) (us : List Update)
            → need (a || (b && r)) (Some (u ∷ us)) ≡ need (a || b) (need (a || r) (Some us) >>= λ ws. Some (u ∷ ws))
        pick true b r us = refl
        pick false true true us = refl
        pick false true false us = refl
        pick false false r us = refl

        go : (a : Bool) (o : Option (List Update))
            → (o >>= λ us. Some (u ∷ us)) >>= (λ us. need (a || running next us) (Some us))
            ≡ need (a || eqb u.place (next_on next u.what)) ((o >>= λ us. need (a || running (next_after next u.what) us) (Some us)) >>= λ us. Some (u ∷ us))
        go a None = nothing (a || eqb u.place (next_on next u.what))
        go a (Some us) = pick a (eqb u.place (next_on next u.what)) (running (next_after next u.what) us) us

  -- an entry that breaches a rule, that is passed over, that says an update
  module _ (more : ℕ) (next : Next) (us : List Update) (e fs : List Field) (w : tidy named_tags ours e ≡ true) (b : up_to t.first fs ≡ []) where
    ended : inside more next us e fs ≡ need (eqb (length (parts t.first fs)) more && all_tidy named_tags ours (parts t.first fs)) (ran next (e ∷ parts t.first fs) >>= λ ws. Some (us ++ ws))
    unfolding inside closing all_tidy
    ended =
        let ps = parts t.first fs in
        rw (b, append-nil e, w, add-one more, eqb-suc-suc (length ps) more)

    again : (next' : Next) (us' : List Update) → outside more next' us' fs ≡ need (eqb (length (parts t.first fs)) more && all_tidy named_tags ours (parts t.first fs)) (ran next' (parts t.first fs) >>= λ ws. Some (us' ++ ws))
    unfolding outside closing tidy
    again next' us' = rw b

    no_updates : (z : Bool) → ◌≡◌ {A = Option (List Update)} (need z None) None
    no_updates true = refl
    no_updates false = refl

    -- what the entry says of those that are left
    module _ (ps : List (List Field)) where
      to_bad : (o : Option (Option Update)) → entry_in depth t (lookup e) ≡ o → o >>= at_next t next ≡ None → ran next (e ∷ ps) ≡ None
      unfolding at_next
      to_bad None q h = ran_bad next e ps q
      to_bad (Some None) q h = let z : ◌≡◌ {A = ℕ} 0 1 = cc in absurd (omega arith)
      to_bad (Some (Some u)) q h = ran_said next e ps u q ∙ go (eqb t.first 279 || eqb u.place (next_on next u.what)) h
        where
          go : (z : Bool) → need z (Some (Some u)) ≡ None → need z (ran (next_after next u.what) ps >>= λ ws. Some (u ∷ ws)) ≡ None
          go true k = let z : ◌≡◌ {A = ℕ} 0 1 = cc in absurd (omega arith)
          go false k = refl

      to_passed : (o : Option (Option Update)) → entry_in depth t (lookup e) ≡ o → o >>= at_next t next ≡ Some None → ran next (e ∷ ps) ≡ ran next ps
      unfolding at_next
      to_passed None q h = let z : ◌≡◌ {A = ℕ} 0 1 = cc in absurd (omega arith)
      to_passed (Some None) q h = ran_passed next e ps q
      to_passed (Some (Some u)) q h = absurd (go (eqb t.first 279 || eqb u.place (next_on next u.what)) h)
        where
          go : (z : Bool) → need z (Some (Some u)) ≡ Some None → ⊥
          go true k = let z : ◌≡◌ {A = ℕ} 0 1 = cc in omega arith
          go false k = let z : ◌≡◌ {A = ℕ} 0 1 = cc in omega arith

      to_said : (u : Update) (o : Option (Option Update)) → entry_in depth t (lookup e) ≡ o → o >>= at_next t next ≡ Some (Some u)
          → ran next (e ∷ ps) ≡ ran (next_after next u.what) ps >>= λ ws. Some (u ∷ ws)
      unfolding at_next
      to_said u None q h = let z : ◌≡◌ {A = ℕ} 0 1 = cc in absurd (omega arith)
      to_said u (Some None) q h = let z : ◌≡◌ {A = ℕ} 0 1 = cc in absurd (omega arith)
      to_said u (Some (Some v)) q h = ran_said next e ps v q ∙ go (eqb t.first 279 || eqb v.place (next_on next v.what)) h
        where
          go : (z : Bool) → need z (Some (Some v)) ≡ Some (Some u)
              → need z (ran (next_after next v.what) ps >>= λ ws. Some (v ∷ ws)) ≡ ran (next_after next u.what) ps >>= λ ws. Some (u ∷ ws)
          go true k = let p : v ≡ u = cc in rw p
          go false k = let z : ◌≡◌ {A = ℕ} 0 1 = cc in absurd (omega arith)

    pub entry_bad : entry_next depth t next (lookup e) ≡ None → inside more next us e fs ≡ None
    unfolding entry_next
    entry_bad h =
        let ps = parts t.first fs in
        ended ∙ rw (to_bad ps (entry_in depth t (lookup e)) refl h) (no_updates (eqb (length ps) more && all_tidy named_tags ours ps))

    pub entry_passed : entry_next depth t next (lookup e) ≡ Some None → inside more next us e fs ≡ outside more next us fs
    unfolding entry_next
    entry_passed h = ended ∙ rw (to_passed (parts t.first fs) (entry_in depth t (lookup e)) refl h) (sym (again next us))

    pub entry_said : (u : Update) → entry_next depth t next (lookup e) ≡ Some (Some u)
        → inside more next us e fs ≡ outside more (next_after next u.what) (us ++ (u ∷ [])) fs
    unfolding entry_next
    entry_said u h =
        let ps = parts t.first fs in
        let next' = next_after next u.what in
        ended ∙ rw (to_said ps u (entry_in depth t (lookup e)) refl h) (ap (need (eqb (length ps) more && all_tidy named_tags ours ps)) (go (ran next' ps)) ∙ sym (again next' (us ++ (u ∷ []))))
      where
        go : (o : Option (List Update)) → (o >>= λ ws. Some (u ∷ ws)) >>= (λ ws. Some (us ++ ws)) ≡ o >>= λ ws. Some (us ++ (u ∷ []) ++ ws)
        go None = refl
        go (Some ws) = ap Some (sym (append_assoc us (u ∷ []) ws))
