-- A book: a law for each way through the call.
-- Assumes nothing.
use Prim.Native.Nat.{ℕ, ◌/◌, ◌≤◌, ◌<◌}
use mathlib.Core.Path.{◌≡◌, refl, ap, sym, ◌∙◌}
use mathlib.Core.Bool.{true, ◌&&◌}
use mathlib.Core.List.{List}
use native.Mathlib.Omega.{arith}
use lib.Dec.{eqb}
use lib.ListN.{length}
use borrow.Author.Rules.{rules}
use borrow.Author.Tests.{eq-eqb, ne_eqb, le-leb, lt-leb}
use Rattle.refusal.specs.Answer.{Answer, given, refused, answered, UNEVEN, BATCH}
use Rattle.refusal.specs.Laws.Answers.{fails, holds, then_given, then_refused, never_both, handed_on}
use Rattle.std.specs.Prelude.{Result, Ok, Err, IsErr, IsErrAnd}
use Rattle.refusal.specs.declared.Refusal.{Refusal}
use Rattle.refusal.specs.declared.Refusal.TheVariants.{Uneven, Batch}
use Rattle.refusal.specs.Refusals.{number_of}
use Rattle.book.specs.Framing.{requests_in}
use Rattle.book.specs.Book.{Lists, lists, book_of, counted, lists_after, Books}
use Rattle.book.specs.Inner.Turns.{Ready}

-- what the count of the requests tells
record Whole (o : Answer (List (List ℕ))) (n : ℕ) : Type 0 where
  requests : List (List ℕ)
  from : o ≡ given requests
  count : length requests ≡ n

is_whole : (o : Answer (List (List ℕ))) (n : ℕ) → given n ≡ counted o → Whole o n
unfolding counted
is_whole (given rs) n p = record { requests = rs; from = refl; count = cc }
is_whole (refused k) n p = absurd (never_both (given n) n k refl p)

is_refused : (o : Answer (List (List ℕ))) (k : ℕ) → refused k ≡ counted o → o ≡ refused k
unfolding counted
is_refused (given rs) k p = absurd (never_both (given (length rs)) (length rs) k refl (sym p))
is_refused (refused n) k p = ap refused (let q : n ≡ k = cc in q)

refuses : (o : Answer (List (List ℕ))) (r : Result ℕ Refusal) (k : ℕ) (l : Lists) → answered r ≡ refused k → refused k ≡ o → Books o r l l
unfolding counted lists_after
refuses o r k l a e = rw (← e) (record { answer = a; after = refl })

module _ (bytes dates flags unadjusted answers : List ℕ) where
  pub flags_uneven : (length dates ≡ length flags → ⊥) → Books (book_of bytes (length dates) (length flags) (length unadjusted) (length answers)) (Err Uneven) (lists dates flags unadjusted answers) (lists dates flags unadjusted answers)
  unfolding book_of
  flags_uneven h = refuses _ _ UNEVEN _ refl (fails UNEVEN _ _ (rw (ne_eqb (length dates) (length flags) h) refl))

  module _ (f : length dates ≡ length flags) where
    pub third_uneven : (length dates ≡ length unadjusted → ⊥) → Books (book_of bytes (length dates) (length flags) (length unadjusted) (length answers)) (Err Uneven) (lists dates flags unadjusted answers) (lists dates flags unadjusted answers)
    unfolding book_of
    third_uneven h = refuses _ _ UNEVEN _ refl (fails UNEVEN _ _ (rw (eq-eqb (length dates) (length flags) f, ne_eqb (length dates) (length unadjusted) h) refl))

    module _ (u : length dates ≡ length unadjusted) (r : Result ℕ Refusal) (p : answered r ≡ counted (requests_in bytes)) where
      even : (eqb (length dates) (length flags) && eqb (length dates) (length unadjusted)) ≡ true
      even = rw (eq-eqb (length dates) (length flags) f, eq-eqb (length dates) (length unadjusted) u) refl

      pub cut_short : (k : Refusal) → r ≡ Err k → (x : Result ℕ Refusal) → IsErr x × IsErrAnd x (λ j. j ≡ k) → Books (book_of bytes (length dates) (length flags) (length unadjusted) (length answers)) x (lists dates flags unadjusted answers) (lists dates flags unadjusted answers)
      unfolding book_of
      cut_short k e x h =
          let q : refused (number_of k) ≡ counted (requests_in bytes) = rw e at p in
          refuses _ x (number_of k) _ (handed_on x k h) (holds UNEVEN _ _ _ even (then_refused _ (number_of k) _ (is_refused _ (number_of k) q)))

      module _ (n : ℕ) (e : r ≡ Ok n) where
        whole : Whole (requests_in bytes) n
        whole = is_whole _ n (rw e at p)

        pub few_places : length answers / 4 < n → Books (book_of bytes (length dates) (length flags) (length unadjusted) (length answers)) (Err Batch) (lists dates flags unadjusted answers) (lists dates flags unadjusted answers)
        unfolding book_of
        few_places h =
            let c = whole.count in
            refuses _ _ BATCH _ refl (holds UNEVEN _ _ _ even (then_given _ whole.requests _ _ whole.from (fails BATCH _ _ (lt-leb (length whole.requests) (length answers / 4) (omega (arith, c, h))))))

        module _ (h : n ≤ length answers / 4) where
          pub are_ready : Ready bytes (lists dates flags unadjusted answers)
          are_ready =
              let c = whole.count in
              record { requests = whole.requests; from = whole.from; even = record { flags = f; unadjusted = u }; places = omega (arith, c, h) }

          pub all_done : (l : Lists) → l ≡ lists_after (requests_in bytes) (lists dates flags unadjusted answers) → Books (book_of bytes (length dates) (length flags) (length unadjusted) (length answers)) (Ok n) (lists dates flags unadjusted answers) l
          unfolding book_of counted
          all_done l a =
              let c = whole.count in
              let o : given whole.requests ≡ (book_of bytes (length dates) (length flags) (length unadjusted) (length answers)) =
              holds UNEVEN _ _ _ even (then_given _ whole.requests _ _ whole.from (holds BATCH _ _ _ (le-leb (length whole.requests) (length answers / 4) (omega (arith, c, h))) refl)) in
              record {
                answer = ap given (sym c) ∙ ap counted o;
                after = a ∙ ap (λ (x : Answer (List (List ℕ))). lists_after x (lists dates flags unadjusted answers)) (whole.from ∙ o);
              }

pub ruleset booking = (flags_uneven, third_uneven, cut_short, few_places, are_ready, all_done, rules)
