-- Laws of the last steps: when the lists belong together, and what is written then.
-- Assumes nothing.
use Rattle.std.specs.Prelude.{◌≡◌, Bool, true, false, ◌&&◌, List, eqb, leb, length}
use Rattle.std.proofs.Math.Path.{refl}
use Rattle.std.proofs.Common.{sym, ◌∙◌, arith}
use Prim.Native.Nat.{ℕ, zero, suc, ◌+◌, ◌≤◌, ◌<◌, min}
use borrow.Author.Tests.{le-leb, lt-leb, eq-eqb, ne_eqb, eqb-true, leb-true}
use Rattle.std.proofs.lemmas.Bool.{false≢true}
use Rattle.refusal.specs.declared.Refusal.{Refusal}
use Rattle.refusal.specs.Refusals.{number_of, in_table}
use Rattle.refusal.specs.Laws.Searched.{is_listed, no_refusal}
use Rattle.refusal.specs.Answer.{Answer, refused, then, UNEVEN, ROOM}
use Rattle.date.specs.Civil.{pick_n}
use Rattle.steps.specs.declared.Request.{Request}
use Rattle.steps.specs.declared.Built.{Built}
use Rattle.steps.specs.Build.{refused_built, answered, dates_after, flags_after}
use Rattle.steps.specs.Entries.{Entries, Written, paid_of, moved_of, unadjusted_after, pairs_of, merged_entries}
use Rattle.finish.specs.Finishing.{Lent, lent_refusal, unless_refused, completed}

module _ (work paid marks dates flags unadjusted : ℕ) where
  pub uneven_lent : (dates ≡ flags → ⊥) → UNEVEN ≡ lent_refusal work paid marks dates flags unadjusted
  unfolding lent_refusal
  uneven_lent h = rw (ne_eqb dates flags h) refl

  module _ (e : dates ≡ flags) where
    pub uneven_third : (dates ≡ unadjusted → ⊥) → UNEVEN ≡ lent_refusal work paid marks dates flags unadjusted
    unfolding lent_refusal
    uneven_third h = rw (eq-eqb dates flags e, ne_eqb dates unadjusted h) refl

    module _ (u : dates ≡ unadjusted) where
      pub uneven_paid : (work ≡ paid → ⊥) → UNEVEN ≡ lent_refusal work paid marks dates flags unadjusted
      unfolding lent_refusal
      uneven_paid h = rw (eq-eqb dates flags e, eq-eqb dates unadjusted u, ne_eqb work paid h) refl

      module _ (b : work ≡ paid) where
        pub uneven_marks : (work ≡ marks + 1 → ⊥) → UNEVEN ≡ lent_refusal work paid marks dates flags unadjusted
        unfolding lent_refusal
        uneven_marks h = rw (eq-eqb dates flags e, eq-eqb dates unadjusted u, eq-eqb work paid b, ne_eqb work (marks + 1) h) refl

        module _ (f : work ≡ marks + 1) where
          pub no_room : min dates 4096 < work → ROOM ≡ lent_refusal work paid marks dates flags unadjusted
          unfolding lent_refusal
          no_room h = rw (eq-eqb dates flags e, eq-eqb dates unadjusted u, eq-eqb work paid b, eq-eqb work (marks + 1) f, lt-leb work (min dates 4096) h) refl

          pub room_for : work ≤ min dates 4096 → 0 ≡ lent_refusal work paid marks dates flags unadjusted
          unfolding lent_refusal
          room_for h = rw (eq-eqb dates flags e, eq-eqb dates unadjusted u, eq-eqb work paid b, eq-eqb work (marks + 1) f, le-leb work (min dates 4096) h) refl

-- no refusal has the number 0
pub never_0 : (r : Refusal) → number_of r ≡ 0 → ⊥
never_0 r e =
    let a : in_table 0 ≡ true = rw e at (is_listed r) in
    let b : in_table 0 ≡ false = no_refusal 0 (λ h k. let bad : ⊥ = omega arith in bad) in
    false≢true (sym b ∙ a)

impossible : (n : ℕ) → 0 ≡ suc n → ⊥
impossible n h = omega arith

record All (a b c d e : Bool) : Type 0 where
  even : a ≡ true
  third : b ≡ true
  beside : c ≡ true
  between : d ≡ true
  few : e ≡ true

by_tests : (a b c d e : Bool) → 0 ≡ pick_n (a && (b && (c && d))) (pick_n e 0 ROOM) UNEVEN → All a b c d e
by_tests true true true true true h = record { even = refl; third = refl; beside = refl; between = refl; few = refl }
by_tests true true true true false h = absurd (impossible 13 h)
by_tests true true true false e h = absurd (impossible 0 h)
by_tests true true false d e h = absurd (impossible 0 h)
by_tests true false c d e h = absurd (impossible 0 h)
by_tests false b c d e h = absurd (impossible 0 h)

-- lists that belong together are lent as the last steps want them, and the other way round
module _ (work paid marks dates flags unadjusted number : ℕ) (p : number ≡ lent_refusal work paid marks dates flags unadjusted) (z : number ≡ 0) where
  tests : All (eqb dates flags) (eqb dates unadjusted) (eqb work paid) (eqb work (marks + 1)) (leb work (min dates 4096))
  unfolding lent_refusal
  tests = by_tests (eqb dates flags) (eqb dates unadjusted) (eqb work paid) (eqb work (marks + 1)) (leb work (min dates 4096)) (sym z ∙ p)

  pub lent_between : work ≡ marks + 1
  lent_between = eqb-true _ _ tests.between

  pub lent_beside : work ≡ paid
  lent_beside = eqb-true _ _ tests.beside

  pub lent_few : work ≤ min dates 4096
  lent_few = leb-true _ _ tests.few

  lent_even : dates ≡ flags
  lent_even = eqb-true _ _ tests.even

  lent_third : dates ≡ unadjusted
  lent_third = eqb-true _ _ tests.third

pub lent_of : (n k m number : ℕ) (work paid marks dates flags unadjusted : List ℕ) → number ≡ lent_refusal n k m (length dates) (length flags) (length unadjusted) → number ≡ 0 → length work ≡ n → length paid ≡ k → length marks ≡ m → Lent work paid marks dates flags unadjusted
lent_of n k m number work paid marks dates flags unadjusted p z e g f =
    let a = lent_between n k m (length dates) (length flags) (length unadjusted) number p z in
    let c = lent_beside n k m (length dates) (length flags) (length unadjusted) number p z in
    let b = lent_few n k m (length dates) (length flags) (length unadjusted) number p z in
    record {
      between = omega arith;
      beside = omega arith;
      most = omega arith;
      fits = omega arith;
      even = lent_even n k m (length dates) (length flags) (length unadjusted) number p z;
      even_third = lent_third n k m (length dates) (length flags) (length unadjusted) number p z;
    }

pub lent_fits : {work paid marks dates flags unadjusted : List ℕ} → Lent work paid marks dates flags unadjusted → 0 ≡ lent_refusal (length work) (length paid) (length marks) (length dates) (length flags) (length unadjusted)
lent_fits l = let m = l.most in let f = l.fits in room_for _ _ _ _ _ _ l.even l.even_third l.beside l.between (omega arith)

-- ---- what was written
pub written_refused : (q : Request) (n : ℕ) (r : Built) (dates flags unadjusted : List ℕ) → r ≡ refused_built n → Written q (refused n) r dates flags unadjusted dates flags unadjusted
unfolding paid_of moved_of then answered dates_after flags_after unadjusted_after
written_refused q n r dates flags unadjusted e = record { answer = e; dates_after_lem = refl; flags_after_lem = refl; unadjusted_after_lem = refl }

pub written_as : (q : Request) (o o' : Answer Entries) (r : Built) (dates flags unadjusted dates' flags' unadjusted' : List ℕ) → o ≡ o' → Written q o r dates flags unadjusted dates' flags' unadjusted' → Written q o' r dates flags unadjusted dates' flags' unadjusted'
written_as q o o' r dates flags unadjusted dates' flags' unadjusted' e w = rw e at w

-- ---- the last steps on any lists
module _ (q : Request) (closed : List ℕ) (seed tries : ℕ) (work marks : List ℕ) (paid dates flags unadjusted number : ℕ) (p : number ≡ lent_refusal (length work) paid (length marks) dates flags unadjusted) where
  completed_refused : (number ≡ 0 → ⊥) → refused number ≡ completed q closed seed tries work marks paid dates flags unadjusted
  unfolding completed unless_refused
  completed_refused h = rw (sym p) (go number h)
    where
      go : (n : ℕ) → (n ≡ 0 → ⊥) → refused n ≡ unless_refused n (then (pairs_of q closed seed work) (merged_entries marks tries))
      go zero h = absurd (h refl)
      go (suc n) h = refl

  pub completed_on : number ≡ 0 → then (pairs_of q closed seed work) (merged_entries marks tries) ≡ completed q closed seed tries work marks paid dates flags unadjusted
  unfolding completed unless_refused
  completed_on e = rw (sym p ∙ e) refl

pub lent_stop : (q : Request) (closed : List ℕ) (seed tries : ℕ) (work marks : List ℕ) (paid : ℕ) (dates flags unadjusted : List ℕ) (number : ℕ) (b : Built) → number ≡ lent_refusal (length work) paid (length marks) (length dates) (length flags) (length unadjusted) → (number ≡ 0 → ⊥) → b ≡ refused_built number → Written q (completed q closed seed tries work marks paid (length dates) (length flags) (length unadjusted)) b dates flags unadjusted dates flags unadjusted
lent_stop q closed seed tries work marks paid dates flags unadjusted number b p h e =
    written_as q (refused number) _ b dates flags unadjusted dates flags unadjusted (completed_refused q closed seed tries work marks paid (length dates) (length flags) (length unadjusted) number p h) (written_refused q number b dates flags unadjusted e)
