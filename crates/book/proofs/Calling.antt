-- A single call: a law for each way.
-- Assumes nothing.
use Prim.Native.Nat.{ℕ, zero, suc, ◌-◌, ◌≤◌}
use mathlib.Core.Path.{◌≡◌, refl, ap, sym, ◌∙◌}
use mathlib.Core.Logic.{inl, inr}
use mathlib.Core.Bool.{Bool, true, false}
use mathlib.Core.List.{List}
use native.Mathlib.Omega.{arith}
use lib.Dec.{eqb}
use lib.ListN.{length, take, drop}
use borrow.Author.Tests.{eqb-true, eqb-false}
use Rattle.refusal.specs.Answer.{Answer, given, refused, then}
use Rattle.refusal.specs.Laws.Answers.{then_given}
use Rattle.steps.specs.declared.Request.{Request}
use Rattle.steps.specs.declared.Built.{Built}
use Rattle.steps.specs.Build.{answered, refused_built, dates_after, flags_after}
use Rattle.steps.specs.Entries.{Entries, entries_of, paid_of, moved_of, unadjusted_after, Written}
use Rattle.outcomes.proofs.Refusals.{never_zero}
use Rattle.outcomes.proofs.Uneven.{uneven_exactly, refused_as_before}
use Rattle.std.specs.Prelude.{Result, Ok, Err}
use Rattle.refusal.specs.declared.Refusal.{Refusal}
use Rattle.refusal.specs.Refusals.{number_of, in_table}
use Rattle.std.proofs.lemmas.Bool.{false≢true}
use Rattle.refusal.specs.Laws.Searched.{is_listed, no_refusal}
use Rattle.request.specs.declared.Decoded.{Decoded}
use Rattle.request.specs.Format.{decoded}
use Rattle.request.specs.Decode.{Decodes}
use Rattle.request.specs.Laws.Held.{read_fits, held, unread, closed_part}
use Rattle.book.specs.Book.{call_of, count_of, four_numbers}
use Rattle.book.specs.Inner.Calls.{count_by, numbers_by, count_in, numbers_in, Calls}

-- no refusal has the number 0
never_0 : (r : Refusal) → number_of r ≡ 0 → ⊥
never_0 r e =
    let a : in_table 0 ≡ true = rw e at (is_listed r) in
    let b : in_table 0 ≡ false = no_refusal 0 (λ h k. let bad : ⊥ = omega arith in bad) in
    false≢true (sym b ∙ a)

-- no build is refused with 0
never : (q : Request) (closed : List ℕ) (dates flags unadjusted : ℕ) → entries_of q closed dates flags unadjusted ≡ refused 0 → ⊥
never q closed dates flags unadjusted h = by (eqb dates unadjusted) refl
  where
    by : (b : Bool) → eqb dates unadjusted ≡ b → ⊥
    by true e = never_zero q closed dates flags ((refused_as_before q closed dates flags unadjusted (eqb-true dates unadjusted e) 0).0 h)
    by false e =
        let u : entries_of q closed dates flags unadjusted ≡ refused 1 = (uneven_exactly q closed dates flags unadjusted).1 (inr (inl (eqb-false dates unadjusted e))) in
        let z : ◌≡◌ {A = ℕ} 0 1 = cc in
        omega arith

by_count : (q : Request) (b : Built) (o : Answer Entries) → (o ≡ refused 0 → ⊥) → b ≡ answered q (moved_of o) (paid_of o) → count_in b ≡ count_of o
unfolding count_by count_of answered paid_of moved_of then
by_count q b (given e) n h = rw h refl
by_count q b (refused zero) n h = absurd (n refl)
by_count q b (refused (suc m)) n h = rw h refl

by_numbers : (q : Request) (b : Built) (o : Answer Entries) → (o ≡ refused 0 → ⊥) → b ≡ answered q (moved_of o) (paid_of o) → (start : ℕ) → numbers_in start b ≡ four_numbers start o
unfolding numbers_by four_numbers answered paid_of moved_of then
by_numbers q b (given e) n h start = rw h refl
by_numbers q b (refused zero) n h start = absurd (n refl)
by_numbers q b (refused (suc m)) n h start = rw h refl

module _ {q : Request} {b : Built} {dates flags unadjusted dates' flags' unadjusted' : List ℕ} where
  pub built_calls : (closed : List ℕ) → Written q (entries_of q closed (length dates) (length flags) (length unadjusted)) b dates flags unadjusted dates' flags' unadjusted' → Calls (entries_of q closed (length dates) (length flags) (length unadjusted)) b dates flags unadjusted dates' flags' unadjusted'
  built_calls closed w =
      let n = never q closed (length dates) (length flags) (length unadjusted) in
      record {
        count = by_count q b _ n w.answer;
        numbers = by_numbers q b _ n w.answer;
        dates_then = w.dates_after_lem;
        flags_then = w.flags_after_lem;
        unadjusted_then = w.unadjusted_after_lem;
      }

calls_as : {o o' : Answer Entries} {b : Built} {dates flags unadjusted dates' flags' unadjusted' : List ℕ} → o ≡ o' → Calls o b dates flags unadjusted dates' flags' unadjusted' → Calls o' b dates flags unadjusted dates' flags' unadjusted'
calls_as e c = rw (← e) c

-- a refusal of what was to be built
stopped : (n : ℕ) (b : Built) → (n ≡ 0 → ⊥) → b ≡ refused_built n → (dates flags unadjusted : List ℕ) → Calls (refused n) b dates flags unadjusted dates flags unadjusted
unfolding count_by numbers_by count_of four_numbers paid_of then dates_after flags_after unadjusted_after
stopped zero b z x dates flags unadjusted = absurd (z refl)
stopped (suc n) b z x dates flags unadjusted = rw x (record { count = refl; numbers = λ start. refl; dates_then = refl; flags_then = refl; unadjusted_then = refl })

-- ---- from the bytes
module _ (s old list : List ℕ) (r : Result Decoded Refusal) (d : Decodes (decoded s (length old)) r old list) (size : length old ≡ 4096) where
  pub asked_fits : (a : Decoded) → r ≡ Ok a → length list ≡ length old → a.closed ≤ length list
  asked_fits a e l =
      let h = held _ r a d.answer e in
      omega (arith, read_fits s (length old) h.asked h.from, h.count, l)

  pub asked_calls : (a : Decoded) → r ≡ Ok a → (b : Built) (dates flags unadjusted dates' flags' unadjusted' : List ℕ) → Calls (entries_of a.request (take (a.closed - 0) (drop 0 list)) (length dates) (length flags) (length unadjusted)) b dates flags unadjusted dates' flags' unadjusted' → Calls (call_of s (length dates) (length flags) (length unadjusted)) b dates flags unadjusted dates' flags' unadjusted'
  unfolding call_of
  asked_calls a e b dates flags unadjusted dates' flags' unadjusted' c =
      let h = held _ r a d.answer e in
      let p = closed_part _ old list h.asked a.closed h.from d.dates h.count in
      let f : decoded s 4096 ≡ given h.asked = ap (decoded s) (sym size) ∙ h.from in
      calls_as (then_given (decoded s 4096) h.asked _ _ f (rw (p, h.request) refl)) c

  pub refused_calls : (k : Refusal) (n : ℕ) (b : Built) → r ≡ Err k → n ≡ number_of k → b ≡ refused_built n → (dates flags unadjusted : List ℕ) → Calls (call_of s (length dates) (length flags) (length unadjusted)) b dates flags unadjusted dates flags unadjusted
  unfolding call_of then
  refused_calls k n b e m x dates flags unadjusted =
      let f : decoded s 4096 ≡ refused (number_of k) = ap (decoded s) (sym size) ∙ unread _ r k d.answer e in
      rw f (stopped (number_of k) b (never_0 k) (x ∙ ap refused_built m) dates flags unadjusted)
