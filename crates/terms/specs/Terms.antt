-- The terms of a snapshot with 369 = S for the instrument at index i (document 01, "Numbers, queue and marks").
use Rattle.std.specs.Prelude.{Bool, cond, ◌&&◌, ℕ, Result, Ok, Err, ltb, leb}
use Rattle.book.specs.Rules.{is_for}
use Rattle.heading.specs.declared.Heading.{Heading}
use Rattle.heading.specs.Marks.{marked}
use Rattle.message.specs.declared.Answer.{Answer}
use Rattle.message.specs.Answers.{number_of}

-- It is taken if S lies in B to H: not followed 5, already Live 6, S below B 7, S above H 8, or 0.
unfoldable pub refusal_of : Heading → ℕ → ℕ → ℕ
refusal_of h i S =
    cond (leb h.followed i) 5 (cond (marked h.marks i) (cond (ltb S h.base) 7 (cond (ltb h.number S) 8 0)) 6)

-- The number that says it, 0 where it is not refused.
abbrev pub refused_as : Result Unit Answer → ℕ
refused_as (Ok _) = 0
refused_as (Err why) = number_of why

-- A queued entry is applied if it is for all or for instrument i, and numbered above S.
abbrev pub due : ℕ → ℕ → ℕ → ℕ → ℕ → Bool
due i S who what n = is_for i who what && ltb S n
