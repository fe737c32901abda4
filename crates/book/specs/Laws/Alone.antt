-- A request's outcome is said by its bytes and the room then left: its dates, flags and unadjusted dates stand in its part, in every book alike,
-- and the flag place of its last date keeps what it held.
-- Assumes nothing.
use Rattle.std.specs.Prelude.{ℕ, suc, ◌+◌, ◌-◌, ◌<◌, ◌≡◌, List, ◌++◌, length, take, drop, get_or}
use Rattle.std.proofs.Common.{ap, sym, ◌∙◌, arith, take_at, take-take, get_or-take, get_or-drop, get_or-append-add}
use Rattle.refusal.specs.Answer.{Answer}
use Rattle.steps.specs.Build.{over}
use Rattle.steps.specs.Entries.{Entries}
use Rattle.book.specs.Book.{count_of, Lists}
use Rattle.book.specs.Laws.Turns.{dates_in, flags_in, unadjusted_in, dates_over, flags_over, unadjusted_over, Counted}
use Rattle.book.specs.Laws.InPlace.{InPlace}

laid : (n : ℕ) (new old : List ℕ) → length new ≡ n → take n (over new old) ≡ new
unfolding over
laid n new old e = take_at new _ n e

behind : (n : ℕ) (new old : List ℕ) → length new ≡ n → get_or (over new old) n 0 ≡ get_or old n 0
unfolding over
behind n new old e =
    let k : length new + 0 ≡ n = omega (arith, e) in
    let m : length new + 0 ≡ length new = omega arith in
    ap (λ (i : ℕ). get_or (new ++ drop (length new) old) i 0) (sym k) ∙ get_or-append-add new (drop (length new) old) 0 0 ∙ get_or-drop (length new) old 0 0 ∙ ap (λ (i : ℕ). get_or old i 0) k

module _ {i start : ℕ} {o : Answer Entries} {l l' : Lists} (p : InPlace i start o l l') (c : Counted o) where
  pub dates_stand : take (count_of o) (drop start l'.dates) ≡ dates_in o
  dates_stand = p.dates ∙ ap (take (count_of o)) (sym (dates_over o (drop start l.dates))) ∙ laid (count_of o) (dates_in o) (drop start l.dates) c.dates

  pub unadjusted_stand : take (count_of o) (drop start l'.unadjusted) ≡ unadjusted_in o
  unadjusted_stand = p.unadjusted ∙ ap (take (count_of o)) (sym (unadjusted_over o (drop start l.unadjusted))) ∙ laid (count_of o) (unadjusted_in o) (drop start l.unadjusted) c.unadjusted

  over_flags : take (count_of o) (drop start l'.flags) ≡ take (count_of o) (over (flags_in o) (drop start l.flags))
  over_flags = p.flags ∙ ap (take (count_of o)) (sym (flags_over o (drop start l.flags)))

  pub flags_stand : take (count_of o - 1) (drop start l'.flags) ≡ flags_in o
  flags_stand =
      sym (take-take (count_of o - 1) (count_of o) (drop start l'.flags) (omega arith)) ∙ ap (take (count_of o - 1)) over_flags
      ∙ take-take (count_of o - 1) (count_of o) (over (flags_in o) (drop start l.flags)) (omega arith) ∙ laid (count_of o - 1) (flags_in o) (drop start l.flags) c.flags

  pub flag_kept : (n : ℕ) → count_of o ≡ suc n → get_or l'.flags (start + n) 0 ≡ get_or l.flags (start + n) 0
  flag_kept n e =
      let f : length (flags_in o) ≡ n = c.flags ∙ omega (arith, e) in
      let h : n < count_of o = omega (arith, e) in
      sym (get_or-drop start l'.flags n 0) ∙ sym (get_or-take (count_of o) (drop start l'.flags) n 0 h) ∙ ap (λ (x : List ℕ). get_or x n 0) over_flags
      ∙ get_or-take (count_of o) (over (flags_in o) (drop start l.flags)) n 0 h ∙ behind n (flags_in o) (drop start l.flags) f ∙ get_or-drop start l.flags n 0
