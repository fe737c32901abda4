-- What an accepted request may still be refused with, and answers that are refused with nothing else: 13 for a search, where there may be one,
-- 14 for room, 15 at a merge.
-- Assumes nothing.
use Rattle.std.specs.Prelude.{ℕ, ◌≡◌, refl, Bool}
use Rattle.std.proofs.Common.{ap}
use Rattle.std.proofs.Math.Path.{subst}
use Rattle.std.proofs.Math.Bool.{true, false}
use Rattle.refusal.specs.Answer.{Answer, given, refused, number, need, then, BOOK, CLOSED, ROOM, COLLAPSED}
use Rattle.refusal.specs.Laws.Answers.{never_both, one_given}

-- `c` says that there may be a search
pub data Late (c : Type 0) (n : ℕ) : Type 0 where
  by_search : c → n ≡ CLOSED → Late c n
  by_room : n ≡ ROOM → Late c n
  by_merge : n ≡ COLLAPSED → Late c n

-- refused so if at all, and what is given has P
pub record Fine (c : Type 0) {A : Type 0} (P : A → Type 0) (x : Answer A) : Type 0 where
  pub late : (n : ℕ) → x ≡ refused n → Late c n
  pub holds : (a : A) → x ≡ given a → P a

-- nothing is asked of what is given
abbrev pub Any : {A : Type 0} → A → Type 0
Any a = Unit {0}

module _ {c : Type 0} where
  pub gives : {A : Type 0} {P : A → Type 0} (a : A) → P a → Fine c P (given a)
  gives {P = P} a h = record { late = λ n e. absurd (never_both (given a) a n refl e); holds = λ b e. subst P (one_given (given a) a b refl e) h }

  pub refuses : {A : Type 0} {P : A → Type 0} (n : ℕ) → Late c n → Fine c P (refused n)
  unfolding number
  refuses n h = record { late = λ k e. subst (Late c) (ap number e) h; holds = λ b e. absurd (never_both _ b n e refl) }

  -- a step, and one after it
  pub steps : {A B : Type 0} {P : A → Type 0} {Q : B → Type 0} (x : Answer A) {f : A → Answer B} → Fine c P x → ((a : A) → P a → Fine c Q (f a)) → Fine c Q (then x f)
  unfolding then
  steps (given a) u s = s a (u.holds a refl)
  steps (refused n) u s = refuses n (u.late n refl)

  pub weaker : {A : Type 0} {P Q : A → Type 0} {x : Answer A} → Fine c P x → ((a : A) → P a → Q a) → Fine c Q x
  weaker u s = record { late = u.late; holds = λ a e. s a (u.holds a e) }

  -- a test for 2, which holds, and one for another number
  pub tested : {A : Type 0} {P : A → Type 0} {x : Answer A} (b : Bool) → b ≡ true → Fine c P x → Fine c P (need BOOK b x)
  unfolding need
  tested b e u = rw e u

  pub other : {A : Type 0} {P : A → Type 0} {x : Answer A} (n : ℕ) → Late c n → (b : Bool) → Fine c P x → Fine c P (need n b x)
  unfolding need
  other n h true u = u
  other n h false u = refuses n h
