-- What a build of either direction generates where its candidates are kept one after the other up to the j-th, the next ends the loop, and nothing is
-- adjusted: the seed's date, the candidates, and last the date x that ends the list, unless the j-th candidate is that.
-- Assumes nothing.
use Rattle.std.specs.Prelude.{ℕ, suc, ◌≤◌, ◌<◌, ◌≡◌, List}
use Rattle.std.proofs.Common.{zero-le, ap, sym, ◌∙◌, ⊎_elim, eq-or-lt_of_le, arith}
use Rattle.refusal.specs.Answer.{Answer, given, refused, then, ROOM}
use Rattle.calendar.specs.declared.Convention.TheVariants.{Unadjusted}
use Rattle.steps.specs.Candidates.{Turn, past, keep}
use Rattle.steps.specs.Generate.{Lists, Made, nothing, newest, onto, put, put_new, last_try, walk}
use Rattle.outcomes.specs.Laws.Span.{le_or_lt, InSpan}
use Rattle.plain.specs.Laws.Chain.{chain_length, chain_first, linked, put_fits, put_full, walk_fits, walk_full}
use Rattle.plain.specs.Laws.Turns.{new_same, new_put}

module _ (mask : ℕ) (closed : List ℕ) (room seed x : ℕ) (turn : ℕ → ℕ → Answer Turn) (made : ℕ → Lists → Made) where
  -- the date x is put behind what the loop leaves
  abbrev closes : Lists → ℕ → Answer Made
  closes l tries = then (put_new mask closed Unadjusted room x x 0 l) (λ m. given (made tries m))

  -- the seed's date, the loop, the date x
  abbrev pub through : Answer Made
  through = then (put room seed 1 nothing) (λ l. then (walk turn room last_try 1 l) (λ w. closes w.lists w.tries))

  module _
      (line : ℕ → ℕ) (j : ℕ) (start : line 0 ≡ seed)
      (keeps : (i : ℕ) → i < j → turn (line i) (suc i) ≡ given (keep (line (suc i)))) (stops : turn (line j) (suc j) ≡ given past)
      (few : j < last_try) (last : InSpan (line j)) (end : InSpan x)
    where
      none : room ≡ 0 → through ≡ refused ROOM
      unfolding then
      none h = rw (put_full room seed 1 nothing (omega arith))

      begins : 0 < room → through ≡ then (walk turn room last_try 1 (linked line 0)) (λ w. closes w.lists w.tries)
      unfolding then
      begins h =
          rw (put_fits room seed 1 nothing h)
          (ap (λ (d : ℕ). then (walk turn room last_try 1 (onto d 1 nothing)) (λ w. closes w.lists w.tries)) (sym start))

      fits : j < room → through ≡ closes (linked line j) (suc j)
      unfolding then
      fits h = begins (omega arith) ∙ rw (walk_fits turn line room j keeps stops last_try few h)

      front : InSpan (newest (linked line j))
      front = rw (chain_first line j) last

      -- the candidates alone are too many
      pub over : room ≤ j → through ≡ refused ROOM
      unfolding then
      over h =
          ⊎_elim (λ (p : 0 ≡ room). none (sym p))
          (λ (p : 0 < room). begins p ∙ rw (walk_full turn line room j keeps stops last_try (omega arith) p h))
          (eq-or-lt_of_le zero-le)

      -- the date x is the j-th candidate
      same : line j ≡ x → closes (linked line j) (suc j) ≡ given (made (suc j) (linked line j))
      unfolding then
      same q = rw (new_same mask closed room x (linked line j) front end (chain_first line j ∙ q))

      pub met : line j ≡ x → j < room → through ≡ given (made (suc j) (linked line j))
      met q h = fits h ∙ same q

      -- it is not, and is put
      module _ (other : line j ≡ x → ⊥) where
        apart : newest (linked line j) ≡ x → ⊥
        apart q = other (sym (chain_first line j) ∙ q)

        put_behind : suc j < room → closes (linked line j) (suc j) ≡ given (made (suc j) (onto x 0 (linked line j)))
        unfolding then
        put_behind h = rw (new_put mask closed room x (linked line j) front end apart, put_fits room x 0 (linked line j) (omega (arith, chain_length line j)))

        no_room : room ≤ suc j → closes (linked line j) (suc j) ≡ refused ROOM
        unfolding then
        no_room h = rw (new_put mask closed room x (linked line j) front end apart, put_full room x 0 (linked line j) (omega (arith, chain_length line j)))

        pub unmet : suc j < room → through ≡ given (made (suc j) (onto x 0 (linked line j)))
        unmet h = fits (omega arith) ∙ put_behind h

        pub full : room ≤ suc j → through ≡ refused ROOM
        full h = ⊎_elim over (λ (p : j < room). fits p ∙ no_room h) (le_or_lt room j)
