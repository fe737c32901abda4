-- A law for each way through a build.
-- Assumes nothing.
use mathlib.Core.Path.{◌≡◌, refl, ap, sym, ◌∙◌}
use mathlib.Core.Bool.{Bool, true, false, not}
use mathlib.Core.List.{List}
use Prim.Native.Nat.{ℕ, zero, suc, ◌+◌, ◌-◌, ◌≤◌, min}
use native.Mathlib.Omega.{arith}
use lib.Dec.{eqb}
use lib.ListN.{length, take, drop, length-drop}
use lib.Seq.{length-take-le}
use Rattle.refusal.specs.Answer.{Answer, given, refused, answered, number, need, then, UNEVEN}
use Rattle.refusal.specs.Laws.Answers.{then_given, then_refused, holds}
use borrow.Author.Rules.{rules}
use borrow.Author.Tests.{eq-eqb, ne_eqb, eqb-true}
use Rattle.calendar.specs.Adjust.{adjusted}
use Rattle.steps.specs.declared.Rule.{Rule}
use Rattle.steps.specs.declared.Request.{Request}
use Rattle.steps.specs.declared.Built.{Built}
use Rattle.steps.specs.Rules.{is_zero, is_backward, rule_in_force}
use Rattle.steps.specs.Table.{number_or, first_row, input_rows}
use Rattle.steps.specs.Laws.Table.{accepted}
use Rattle.steps.specs.Generate.{zero_dates, backward, forward, generate_by, generate}
use Rattle.steps.specs.Build.{refused_built, admitted, dates_after, flags_after}
use Rattle.steps.specs.Build.{answered as answered_built}
use Rattle.steps.specs.Entries.{Entries, pairs_of, merged_entries, entries_of_made, entry_steps, entries_of, paid_of, moved_of, unadjusted_after, Written}
use Rattle.working.specs.declared.Piece.{Piece}
use Rattle.std.specs.Prelude.{Result, Ok, Err}
use Rattle.refusal.specs.declared.Refusal.{Refusal}
use Rattle.refusal.specs.Refusals.{number_of}
use Rattle.working.specs.Step.{was_given, was_refused, was_kept}
use Rattle.working.specs.Part.{Work, working, Part, Placed}
use Rattle.finish.specs.Finishing.{Lent, completed}
use Rattle.finish.specs.Laws.Lending.{lent_fits, completed_on, never_0, written_as}
use Rattle.finish.specs.Paying.{PaidAlready}
use Rattle.working.specs.Making.{Checked, piece, Laid, Generates}

-- ---- Zero
pub zero_size : {room n : ℕ} {w : Work} → Placed room n w → n ≤ 4096
zero_size p = let t = p.part in omega (arith, t)

-- ---- by the rule in force
module _ (q : Request) (closed : List ℕ) (rule : Rule) (r : rule ≡ rule_in_force q) (z : Bool) (p : z ≡ is_zero rule) where
  in_force : z ≡ is_zero (rule_in_force q)
  in_force = p ∙ ap is_zero r

  pub generate_zero : (room : ℕ) → z ≡ true → zero_dates q room ≡ generate q closed room
  unfolding generate generate_by
  generate_zero room e = rw (sym in_force ∙ e) refl

  module _ (room : ℕ) (e : z ≡ false) (b : Bool) (s : b ≡ is_backward rule) where
    in_back : b ≡ is_backward (rule_in_force q)
    in_back = s ∙ ap is_backward r

    pub generate_back : b ≡ true → backward q closed room ≡ generate q closed room
    unfolding generate generate_by
    generate_back h = rw (sym in_force ∙ e, sym in_back ∙ h) refl

    pub generate_forth : b ≡ false → forward q closed room ≡ generate q closed room
    unfolding generate generate_by
    generate_forth h = rw (sym in_force ∙ e, sym in_back ∙ h) refl

-- ---- the checks
pub checked : (q : Request) (closed : List ℕ) (dates flags : ℕ) → first_row (input_rows q closed dates flags) ≡ 0 → Checked q closed
checked q closed dates flags h = let a = accepted q closed dates flags h in record { calendar = a.closed_holds; tenor = a.tenor_holds }

-- ---- a part of the working lists
module _ (l : List ℕ) (at n end : ℕ) (size : length l ≡ 4096) (e : end ≡ at + n) (fits : at + n ≤ 4096) where
  pub part_is : take (end - at) (drop at l) ≡ take n (drop at l)
  part_is = let k : end - at ≡ n = omega arith in rw k refl

  pub part_long : length (take (end - at) (drop at l)) ≡ n
  part_long =
      let k : end - at ≡ n = omega arith in
      let d : length (drop at l) ≡ 4096 - at = length-drop at l ∙ rw size refl in
      rw k (length-take-le n (drop at l) (omega arith))

-- ---- refusals, and what was generated
pub refusal_written : (q : Request) (o : Answer Entries) (k : ℕ) (r : Built) (dates flags unadjusted : List ℕ) → r ≡ refused_built k → refused k ≡ o → Written q o r dates flags unadjusted dates flags unadjusted
unfolding paid_of moved_of then answered_built dates_after flags_after unadjusted_after
refusal_written q o k r dates flags unadjusted b e = rw (← e) (record { answer = b; dates_after_lem = refl; flags_after_lem = refl; unadjusted_after_lem = refl })

module _ (q : Request) (closed : List ℕ) (lent : ℕ) {room : ℕ} (g : Result Piece Refusal) (w : Work) (paid : List ℕ) (p : Generates q closed room (generate q closed room) g w paid) (least : room ≡ min lent 4096) where
  pub run_stop : (k : Refusal) → g ≡ Err k → refused (number_of k) ≡ entry_steps q closed lent
  unfolding entry_steps
  run_stop k e =
      let h : answered g ≡ refused (number_of k) = rw e in
      let s : generate q closed room ≡ refused (number_of k) = was_refused p (number_of k) h in
      then_refused _ (number_of k) _ (rw least at s)

  pub run_on : (c : Piece) → g ≡ Ok c → then (pairs_of q closed c.seed (take c.n (drop c.from w.days))) (merged_entries (take (c.n - 1) (drop c.marked w.marks)) c.tries) ≡ entry_steps q closed lent
  unfolding entry_steps entries_of_made piece
  run_on c e =
      let h : answered g ≡ given c = rw e in
      let k : generate q closed room ≡ given (piece w c) = was_given p c h in
      then_given _ _ _ _ (rw least at k) refl

  -- what was generated fits into what is lent
  pub run_laid : (c : Piece) → g ≡ Ok c → Laid q closed lent w paid c
  run_laid c e =
      let h : answered g ≡ given c = rw e in
      let d = was_kept p c h in
      let l = d.lies in
      let f = l.fits in
      record { lies = record { some = l.some; fits = omega arith; dates_end = l.dates_end; flags_end = l.flags_end }; pays = d.pays; sure = d.sure }

-- ---- the number of the input's first refusal
module _ (dates unadjusted row : ℕ) where
  pub number_uneven : (dates ≡ unadjusted → ⊥) → UNEVEN ≡ number_or (not (eqb dates unadjusted)) UNEVEN row
  unfolding number_or
  number_uneven h = rw (ne_eqb dates unadjusted h) refl

  pub number_even : (number : ℕ) → dates ≡ unadjusted → number ≡ row → number ≡ number_or (not (eqb dates unadjusted)) UNEVEN row
  unfolding number_or
  number_even number e h = rw (eq-eqb dates unadjusted e) h

no_number : (b : Bool) (row number : ℕ) → number ≡ number_or (not b) UNEVEN row → number ≡ 0 → (b ≡ true) × (row ≡ 0)
unfolding number_or
no_number true row number p e = (refl, sym p ∙ e)
no_number false row number p e = absurd (let bad : ⊥ = omega (arith, p, e) in bad)

-- ---- the whole build
module _ (q : Request) (closed : List ℕ) (dates flags unadjusted number : ℕ) (p : number ≡ number_or (not (eqb dates unadjusted)) UNEVEN (first_row (input_rows q closed dates flags))) where
  pub build_refused : (number ≡ 0 → ⊥) → refused number ≡ entries_of q closed dates flags unadjusted
  unfolding entries_of admitted number_or need
  build_refused h = by (eqb dates unadjusted) (first_row (input_rows q closed dates flags)) p
    where
      by : (b : Bool) (row : ℕ) → number ≡ number_or (not b) UNEVEN row → refused number ≡ need UNEVEN b (admitted row (entry_steps q closed) dates)
      by true zero e = absurd (h e)
      by true (suc n) e = ap refused e
      by false row e = ap refused e

  pub build_admitted : number ≡ 0 → entry_steps q closed dates ≡ entries_of q closed dates flags unadjusted
  unfolding entries_of admitted
  build_admitted e = let z = no_number _ _ number p e in holds 1 _ _ _ z.0 (rw z.1 refl)

  pub build_checked : number ≡ 0 → Checked q closed × ((dates ≡ flags) × (dates ≡ unadjusted))
  build_checked e =
      let z = no_number _ _ number p e in
      (checked q closed dates flags z.1, ((accepted q closed dates flags z.1).even, eqb-true dates unadjusted z.0))

-- a build, in working lists of its own or lent ones
module _ (q : Request) (closed dates flags unadjusted : List ℕ) (input : Result (Unit {0}) Refusal) (p : number (answered input) ≡ number_or (not (eqb (length dates) (length unadjusted))) UNEVEN (first_row (input_rows q closed (length dates) (length flags)))) where
  pub turned_away : (k : Refusal) (n : ℕ) (r : Built) → input ≡ Err k → n ≡ number_of k → r ≡ refused_built n → Written q (entries_of q closed (length dates) (length flags) (length unadjusted)) r dates flags unadjusted dates flags unadjusted
  unfolding number
  turned_away k n r e f b =
      refusal_written q _ (number_of k) r dates flags unadjusted (b ∙ ap refused_built f) (build_refused q closed (length dates) (length flags) (length unadjusted) (number_of k) (rw e at p) (never_0 k))

  module _ (u : Unit {0}) (e : input ≡ Ok u) where
    none : 0 ≡ number_or (not (eqb (length dates) (length unadjusted))) UNEVEN (first_row (input_rows q closed (length dates) (length flags)))
    unfolding number
    none = rw e at p

    pub run_checked : Checked q closed × ((length dates ≡ length flags) × (length dates ≡ length unadjusted))
    run_checked = build_checked q closed (length dates) (length flags) (length unadjusted) 0 none refl

    pub run_whole : (r : Built) (dates' flags' unadjusted' : List ℕ) → Written q (entry_steps q closed (length dates)) r dates flags unadjusted dates' flags' unadjusted' → Written q (entries_of q closed (length dates) (length flags) (length unadjusted)) r dates flags unadjusted dates' flags' unadjusted'
    run_whole r dates' flags' unadjusted' w = written_as q _ _ r dates flags unadjusted dates' flags' unadjusted' (build_admitted q closed (length dates) (length flags) (length unadjusted) 0 none refl) w

pub ruleset builds = (number_uneven, number_even, rules)

-- the last steps on a part of the working lists that belongs together with what is lent
pub finish_is : (q : Request) (closed : List ℕ) (seed tries : ℕ) (ds ds' ps fs fs' dates flags unadjusted : List ℕ) → ds ≡ ds' → fs ≡ fs' → Lent ds ps fs dates flags unadjusted → completed q closed seed tries ds fs (length ps) (length dates) (length flags) (length unadjusted) ≡ then (pairs_of q closed seed ds') (merged_entries fs' tries)
finish_is q closed seed tries ds ds' ps fs fs' dates flags unadjusted a b l = sym (completed_on q closed seed tries ds fs (length ps) (length dates) (length flags) (length unadjusted) 0 (lent_fits l) refl) ∙ rw (a, b) refl

-- empty working lists, and as much room as is lent
pub part_empty : (lent room : ℕ) (w : Work) → length w.days ≡ 4096 → length w.marks ≡ 4096 → room ≡ min lent 4096 → Part room 0 w
part_empty lent room w a b e = record { work_size = a; marks_size = b; fits = omega arith; most = omega arith }

module _ (q : Request) (closed work paid marks : List ℕ) (c : Piece) (end last : ℕ) (a : length work ≡ 4096) (e : end ≡ c.from + c.n) where
  pub lent_part : (dates flags unadjusted : List ℕ) → length marks ≡ 4096 → last ≡ c.marked + (c.n - 1) → Laid q closed (length dates) (working work marks) paid c → length dates ≡ length flags → length dates ≡ length unadjusted → Lent (take (end - c.from) (drop c.from work)) (take (end - c.from) (drop c.from paid)) (take (last - c.marked) (drop c.marked marks)) dates flags unadjusted
  lent_part dates flags unadjusted b f d k j =
      let l = d.lies in
      let m = part_long work c.from c.n end a e l.dates_end in
      let n = part_long paid c.from c.n end d.pays.size e l.dates_end in
      let o = part_long marks c.marked (c.n - 1) last b f l.flags_end in
      let s = l.some in
      let r = l.fits in
      let t = l.dates_end in
      record { between = omega arith; beside = m ∙ sym n; most = omega arith; fits = omega arith; even = k; even_third = j }

  -- the known dates of the part are paid
  pub paid_part : (room : ℕ) → Laid q closed room (working work marks) paid c → PaidAlready (adjusted q.mask closed q.convention) c.known c.beyond (take (end - c.from) (drop c.from work)) (take (end - c.from) (drop c.from paid))
  paid_part room d =
      let k : end - c.from ≡ c.n = omega arith in
      record { so = rw k d.pays.so }
