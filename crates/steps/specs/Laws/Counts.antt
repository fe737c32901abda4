-- A schedule has at least one date, no more than there is room for, and one flag fewer than dates.
-- Assumes nothing.
use Prim.Native.Nat.{ℕ, zero, suc, ◌+◌, ◌-◌, ◌≤◌, min}
use Rattle.std.specs.Prelude.{◌≡◌, Bool, List, ◌++◌, reverse, eqb, leb, length, get_or, take, drop, set}
use Rattle.std.proofs.Math.Path.{refl}
use Rattle.std.proofs.Common.{sym, ap, ◌∙◌, arith, length-append, length-take, length-drop, length-set, leb-true, ltb-true}
use Rattle.std.proofs.Math.Bool.{true, false}
use Rattle.std.proofs.lemmas.List.{length-reverse}
use Rattle.refusal.specs.Answer.{Answer, given, then, ROOM, COLLAPSED}
use Rattle.refusal.specs.Laws.Answers.{need_given, never_both, one_given, then_stepped, both}
use Rattle.calendar.specs.declared.Convention.{Convention}
use Rattle.steps.specs.declared.Pace.{Pace}
use Rattle.steps.specs.declared.Seed.{Seed}
use Rattle.steps.specs.declared.Request.{Request}
use Rattle.steps.specs.Candidates.{Turn, past, skip, keep}
use Rattle.steps.specs.declared.Rule.{Rule}
use Rattle.steps.specs.Rules.{rule_in_force, is_zero, is_backward, is_credit, on_twentieths}
use Rattle.steps.specs.Generate.{Lists, Walk, nothing, onto, has_room_in, put, put_unless, put_new, on_turn, walk, candidates, put_anchor, Made, zero_dates, put_penultimate, begun, ended, backward_end, backward_from, backward, put_earlier, credit_opening, opening_by, opening, Opened, put_seed, put_first, put_coming, put_twentieth, second, put_closing, closing, opened, shut, forward_end, forward_from, forward, generate_by, generate}
use Rattle.steps.specs.Table.{first_row, input_rows}
use Rattle.steps.specs.Finish.{same_flag, Merged, between, on_first, on_last, on_middle, wednesdays, wednesdays_by, adjustments, meet_at_end, merge_end_if, merge_end, merge_front_if, merge_front, finish}
use Rattle.steps.specs.Build.{Schedule, steps_of, admitted, build_of}
use Rattle.steps.specs.Laws.Parts.{as_many}

-- ---- the lists: a mark for each date, a date at least, and no more than there is room for
abbrev Even : Lists → Type 0
Even l = length l.marks ≡ length l.dates

record Filled (room : ℕ) (l : Lists) : Type 0 where
  even : Even l
  some : 1 ≤ length l.dates
  fits : length l.dates ≤ room

same_lists : (room : ℕ) (l m : Lists) → Filled room l → given l ≡ given m → Filled room m
same_lists room l m f e = let h : l ≡ m = one_given (given l) l m refl e in rw h at f

put_filled : (room day mark : ℕ) (l m : Lists) → Even l → put room day mark l ≡ given m → Filled room m
unfolding put has_room_in
put_filled room day mark l m e h =
    let n = need_given ROOM (has_room_in room l) (given (onto day mark l)) m h in
    let free = ltb-true (length l.dates) room n.0 in
    same_lists room (onto day mark l) m (record { even = ap suc e; some = omega arith; fits = omega (arith, free) }) n.1

unless_filled : (b : Bool) (room day mark : ℕ) (l m : Lists) → Filled room l → put_unless b room day mark l ≡ given m → Filled room m
unfolding put_unless
unless_filled true room day mark l m f h = same_lists room l m f h
unless_filled false room day mark l m f h = put_filled room day mark l m f.even h

new_filled : (mask : ℕ) (closed : List ℕ) (convention : Convention) (room compared day mark : ℕ) (l m : Lists) → Filled room l → put_new mask closed convention room compared day mark l ≡ given m → Filled room m
unfolding put_new
new_filled mask closed convention room compared day mark l m f h =
    let s = then_stepped _ _ m h in
    let t = then_stepped _ _ m s.to in
    unless_filled (eqb s.value t.value) room day mark l m f t.to

anchor_filled : (mask : ℕ) (closed : List ℕ) (convention : Convention) (room anchor : ℕ) (l m : Lists) → Filled room l → put_anchor mask closed convention room anchor l ≡ given m → Filled room m
unfolding put_anchor
anchor_filled mask closed convention room zero l m f h = same_lists room l m f h
anchor_filled mask closed convention room (suc n) l m f h = new_filled mask closed convention room (suc n) (suc n) 0 l m f h

penultimate_filled : (pace : Pace) (seed : Seed) (room anchor : ℕ) (l m : Lists) → Filled room l → put_penultimate pace seed room anchor l ≡ given m → Filled room m
unfolding put_penultimate
penultimate_filled pace seed room zero l m f h = same_lists room l m f h
penultimate_filled pace seed room (suc n) l m f h =
    let s = then_stepped _ _ m (need_given ROOM (has_room_in room l) _ m h).1 in
    put_filled room (suc n) _ l m f.even s.to

-- ---- the loop
module _ (turn : ℕ → ℕ → Answer Turn) (room : ℕ) where
  turn_filled : (t : Turn) (k : ℕ) (l : Lists) (w : Walk) (again : Lists → Answer Walk) → ((m : Lists) → Filled room m → again m ≡ given w → Filled room w.lists) → Filled room l → on_turn room t k l again ≡ given w → Filled room w.lists
  unfolding on_turn then
  turn_filled past k l w again g f h = same_lists room l w.lists f (ap (λ (v : Answer Walk). then v (λ u. given u.lists)) h)
  turn_filled skip k l w again g f h = g l f h
  turn_filled (keep day) k l w again g f h =
      let s = then_stepped _ _ w h in
      g s.value (put_filled room day 1 l s.value f.even s.from) s.to

  walk_filled : (left k : ℕ) (l : Lists) (w : Walk) → Filled room l → walk turn room left k l ≡ given w → Filled room w.lists
  unfolding walk
  walk_filled zero k l w f h = absurd (never_both _ w _ h refl)
  walk_filled (suc left) k l w f h =
      let s = then_stepped _ _ w h in
      turn_filled s.value k l w (walk turn room left (suc k)) (λ m g e. walk_filled left (suc k) m w g e) f s.to

-- ---- the first two dates of a forward build
earlier_even : (b : Bool) (room day : ℕ) (m : Lists) → put_earlier b room day ≡ given m → Even m
unfolding put_earlier
earlier_even true room day m h = let s = then_stepped _ _ m h in (put_filled room s.value 1 nothing m refl s.to).even
earlier_even false room day m h = let e : nothing ≡ m = one_given (given nothing) nothing m refl h in rw (← e) refl

opening_filled : (b : Bool) (q : Request) (closed : List ℕ) (room : ℕ) (m : Lists) → opening_by b q closed room ≡ given m → Filled room m
unfolding opening_by credit_opening
opening_filled true q closed room m h =
    let s = then_stepped _ _ m h in
    let t = then_stepped _ _ m s.to in
    let u = then_stepped _ _ m t.to in
    put_filled room s.value 1 u.value m (earlier_even _ room s.value u.value u.from) u.to
opening_filled false q closed room m h = put_filled room q.effective.day 1 nothing m refl h

seed_filled : (room day mark : ℕ) (l : Lists) (o : Opened) → Even l → put_seed room day mark l ≡ given o → Filled room o.lists
unfolding put_seed then
seed_filled room day mark l o e h =
    let s = then_stepped _ _ o h in
    same_lists room s.value o.lists (put_filled room day mark l s.value e s.from) (ap (λ (v : Answer Opened). then v (λ u. given u.lists)) s.to)

kept_filled : (room : ℕ) (l : Lists) (seed : ℕ) (o : Opened) → Filled room l → given (record { lists = l; seed = seed }) ≡ given o → Filled room o.lists
unfolding then
kept_filled room l seed o f h = same_lists room l o.lists f (ap (λ (v : Answer Opened). then v (λ u. given u.lists)) h)

coming_filled : (b : Bool) (q : Request) (room day : ℕ) (l : Lists) (o : Opened) → Filled room l → put_coming b q room day l ≡ given o → Filled room o.lists
unfolding put_coming
coming_filled true q room day l o f h = kept_filled room l _ o f h
coming_filled false q room day l o f h = seed_filled room day _ l o f.even h

twentieth_filled : (b : Bool) (q : Request) (room : ℕ) (l : Lists) (o : Opened) → Filled room l → put_twentieth b q room l ≡ given o → Filled room o.lists
unfolding put_twentieth
twentieth_filled true q room l o f h =
    let s = then_stepped _ _ o h in
    coming_filled _ q room s.value l o f s.to
twentieth_filled false q room l o f h = kept_filled room l _ o f h

second_filled : (first : ℕ) (q : Request) (closed : List ℕ) (room : ℕ) (l : Lists) (o : Opened) → Filled room l → second first q closed room l ≡ given o → Filled room o.lists
unfolding second put_first
second_filled zero q closed room l o f h = twentieth_filled (on_twentieths q.rule) q room l o f h
second_filled (suc n) q closed room l o f h =
    let s = then_stepped _ _ o (need_given ROOM (has_room_in room l) _ o h).1 in
    seed_filled room q.first.day _ l o f.even s.to

closing_filled : (q : Request) (closed : List ℕ) (room : ℕ) (l m : Lists) → Filled room l → closing q closed room l ≡ given m → Filled room m
unfolding closing put_closing
closing_filled q closed room l m f h =
    let s = then_stepped _ _ m h in
    let t = then_stepped _ _ m s.to in
    by (eqb s.value t.value) t.to
  where
    by : (b : Bool) → put_closing b q room l ≡ given m → Filled room m
    by true e = same_lists room l m f e
    by false e = let u = then_stepped _ _ m e in put_filled room u.value _ l m f.even u.to

-- ---- what was generated: a flag between each two dates
pub record Flagged (room : ℕ) (ds fs : List ℕ) : Type 0 where
  pub some : 1 ≤ length ds
  pub fits : length ds ≤ room
  pub between_dates : length fs + 1 ≡ length ds

back_flagged : (room : ℕ) (l : Lists) → Filled room l → Flagged room l.dates (take (length l.dates - 1) l.marks)
back_flagged room l f =
    let e = f.even in
    let n = length-take (length l.dates - 1) l.marks in
    record { some = f.some; fits = f.fits; between_dates = omega (arith, e, n, f.some) }

forth_flagged : (room : ℕ) (l : Lists) → Filled room l → Flagged room (reverse l.dates) (drop 1 (reverse l.marks))
forth_flagged room l f =
    let e = f.even in
    let a = length-reverse l.dates in
    let b = length-reverse l.marks in
    let n = length-drop 1 (reverse l.marks) in
    record { some = omega (arith, a, f.some); fits = omega (arith, a, f.fits); between_dates = omega (arith, e, a, b, n, f.some) }

same_made : (room : ℕ) (x m : Made) → Flagged room x.dates x.flags → given x ≡ given m → Flagged room m.dates m.flags
same_made room x m f e = let h : x ≡ m = one_given (given x) x m refl e in rw h at f

module _ (q : Request) (closed : List ℕ) (room : ℕ) where
  zero_flagged : (m : Made) → zero_dates q room ≡ given m → Flagged room m.dates m.flags
  unfolding zero_dates
  zero_flagged m h =
      let s = then_stepped _ _ m h in
      let t = then_stepped _ _ s.value s.from in
      let f = put_filled room q.termination.day 1 nothing t.value refl t.from in
      same_made room _ m (back_flagged room s.value (put_filled room q.effective.day 1 t.value s.value f.even t.to)) s.to

  begun_filled : (l : Lists) → begun q room ≡ given l → Filled room l
  unfolding begun
  begun_filled l h =
      let s = then_stepped _ _ l h in
      penultimate_filled _ _ room q.penultimate.day s.value l (put_filled room q.termination.day 1 nothing s.value refl s.from) s.to

  loop_filled : (back : Bool) (seed exit : ℕ) (l : Lists) (w : Walk) → Filled room l → candidates q closed room back seed exit l ≡ given w → Filled room w.lists
  unfolding candidates
  loop_filled back seed exit l w f h = walk_filled _ room _ 1 l w f h

  ended_filled : (l m : Lists) → Filled room l → ended q closed room l ≡ given m → Filled room m
  unfolding ended
  ended_filled l m f h =
      let s = then_stepped _ _ m h in
      new_filled q.mask closed q.convention room _ _ 0 s.value m (anchor_filled q.mask closed q.convention room q.first.day l s.value f s.from) s.to

  backward_flagged : (m : Made) → backward q closed room ≡ given m → Flagged room m.dates m.flags
  unfolding backward backward_from backward_end
  backward_flagged m h =
      let s = then_stepped _ _ m h in
      let t = then_stepped _ _ m s.to in
      let u = then_stepped _ _ m t.to in
      let w = loop_filled true _ _ s.value t.value (begun_filled s.value s.from) t.from in
      same_made room _ m (back_flagged room u.value (ended_filled t.value.lists u.value w u.from)) u.to

  opened_filled : (o : Opened) → opened q closed room ≡ given o → Filled room o.lists
  unfolding opened opening
  opened_filled o h =
      let s = then_stepped _ _ o h in
      second_filled q.first.day q closed room s.value o (opening_filled (is_credit q.rule) q closed room s.value s.from) s.to

  shut_filled : (l m : Lists) → Filled room l → shut q closed room l ≡ given m → Filled room m
  unfolding shut
  shut_filled l m f h =
      let s = then_stepped _ _ m h in
      closing_filled q closed room s.value m (anchor_filled q.mask closed q.convention room q.penultimate.day l s.value f s.from) s.to

  forward_flagged : (m : Made) → forward q closed room ≡ given m → Flagged room m.dates m.flags
  unfolding forward forward_from forward_end
  forward_flagged m h =
      let s = then_stepped _ _ m h in
      let t = then_stepped _ _ m s.to in
      let u = then_stepped _ _ m t.to in
      let w = loop_filled false _ _ s.value.lists t.value (opened_filled s.value s.from) t.from in
      same_made room _ m (forth_flagged room u.value (shut_filled t.value.lists u.value w u.from)) u.to

  generate_flagged : (m : Made) → generate q closed room ≡ given m → Flagged room m.dates m.flags
  unfolding generate generate_by
  generate_flagged m h = by (is_zero (rule_in_force q)) (is_backward (rule_in_force q)) h
    where
      by : (z b : Bool) → generate_by z b q closed room ≡ given m → Flagged room m.dates m.flags
      by true b e = zero_flagged m e
      by false true e = backward_flagged m e
      by false false e = forward_flagged m e

-- ---- moving dates leaves as many
between_length : (f : ℕ → Answer ℕ) (a b : ℕ) (ds ys : List ℕ) → a ≤ b → between f a b ds ≡ given ys → length ys ≡ length ds
unfolding between
between_length f a b ds ys l h =
    let s = then_stepped _ _ ys h in
    let e : take a ds ++ (s.value ++ drop b ds) ≡ ys = one_given (given ys) _ ys (sym s.to) refl in
    let n = as_many f (take (b - a) (drop a ds)) s.value s.from in
    let t = length-take (b - a) (drop a ds) in
    let d = length-drop a ds in
    let u = length-take a ds in
    let v = length-drop b ds in
    let w = length-append (take a ds) (s.value ++ drop b ds) in
    let x = length-append s.value (drop b ds) in
    sym (ap length e) ∙ omega (arith, n, t, d, u, v, w, x)

module _ (f : ℕ → Answer ℕ) (ds ys : List ℕ) where
  first_length : on_first f ds ≡ given ys → length ys ≡ length ds
  unfolding on_first
  first_length h = between_length f 0 1 ds ys (omega arith) h

  last_length : on_last f ds ≡ given ys → length ys ≡ length ds
  unfolding on_last
  last_length h = between_length f (length ds - 1) (length ds) ds ys (omega arith) h

  middle_length : on_middle f ds ≡ given ys → length ys ≡ length ds
  unfolding on_middle
  middle_length h = between_length f 1 (1 + (length ds - 2)) ds ys (omega arith) h

same_length : (ds ys : List ℕ) → given ds ≡ given ys → length ys ≡ length ds
same_length ds ys h = ap length (one_given (given ys) ys ds refl (sym h))

wednesdays_by_length : (middle all : Bool) (mask : ℕ) (closed ds ys : List ℕ) → wednesdays_by middle all mask closed ds ≡ given ys → length ys ≡ length ds
unfolding wednesdays_by
wednesdays_by_length true all mask closed ds ys h = middle_length _ ds ys h
wednesdays_by_length false true mask closed ds ys h = as_many _ ds ys h
wednesdays_by_length false false mask closed ds ys h = same_length ds ys h

wednesdays_length : (rule : Rule) (mask : ℕ) (closed ds ys : List ℕ) → wednesdays rule mask closed ds ≡ given ys → length ys ≡ length ds
unfolding wednesdays
wednesdays_length rule mask closed ds ys h = wednesdays_by_length _ _ mask closed ds ys h

pub adjustments_length : (q : Request) (closed : List ℕ) (seed : ℕ) (ds ys : List ℕ) → adjustments q closed seed ds ≡ given ys → length ys ≡ length ds
unfolding adjustments
adjustments_length q closed seed ds ys h =
    let s = then_stepped _ _ ys h in
    let t = then_stepped _ _ ys s.to in
    let u = then_stepped _ _ ys t.to in
    middle_length _ t.value ys u.to ∙ last_length _ s.value t.value t.from ∙ first_length _ ds s.value s.from

-- ---- a merge takes a date and a flag away
end_flagged : (room : ℕ) (b : Bool) (ds fs : List ℕ) → meet_at_end ds ≡ b → Flagged room ds fs → Flagged room (merge_end_if b ds fs).dates (merge_end_if b ds fs).flags
unfolding merge_end_if meet_at_end
end_flagged room false ds fs e f = f
end_flagged room true ds fs e f =
    let two = leb-true 2 (length ds) (both _ _ e).0 in
    let s = f.between_dates in
    let a = length-take (length ds - 1) (set ds (length ds - 2) (get_or ds (length ds - 1) 0)) in
    let b = length-take (length fs - 1) (set fs (length fs - 2) (same_flag (get_or ds (length ds - 2) 0) (get_or ds (length ds - 1) 0))) in
    let c = length-set ds (length ds - 2) (get_or ds (length ds - 1) 0) in
    let d = length-set fs (length fs - 2) (same_flag (get_or ds (length ds - 2) 0) (get_or ds (length ds - 1) 0)) in
    record { some = omega (arith, two, a, c); fits = omega (arith, f.fits, a, c); between_dates = omega (arith, two, s, a, b, c, d) }

front_flagged : (room : ℕ) (b : Bool) (ds fs : List ℕ) (m : Merged) → Flagged room ds fs → merge_front_if b ds fs ≡ given m → Flagged room m.dates m.flags
unfolding merge_front_if
front_flagged room false ds fs m f h =
    let e : ◌≡◌ {A = Merged} (record { dates = ds; flags = fs }) m = one_given (given m) _ m (sym h) refl in
    rw (← e) f
front_flagged room true ds fs m f h =
    let n = need_given COLLAPSED (leb 3 (length ds)) _ m h in
    let three = leb-true 3 (length ds) n.0 in
    let s = f.between_dates in
    let ds' = set ds 1 (get_or ds 0 0) in
    let fs' = set fs 1 (same_flag (get_or ds 1 0) (get_or ds 0 0)) in
    let a = length-drop 1 ds' in
    let b = length-drop 1 fs' in
    let c = length-set ds 1 (get_or ds 0 0) in
    let d = length-set fs 1 (same_flag (get_or ds 1 0) (get_or ds 0 0)) in
    let e : ◌≡◌ {A = Merged} (record { dates = drop 1 ds'; flags = drop 1 fs' }) m = one_given (given m) _ m (sym n.1) refl in
    rw (← e) (record { some = omega (arith, three, a, c); fits = omega (arith, f.fits, a, c); between_dates = omega (arith, three, s, a, b, c, d) })

finish_flagged : (room : ℕ) (q : Request) (closed : List ℕ) (seed : ℕ) (ds fs : List ℕ) (m : Merged) → Flagged room ds fs → finish q closed seed ds fs ≡ given m → Flagged room m.dates m.flags
unfolding finish merge_front merge_end
finish_flagged room q closed seed ds fs m f h =
    let s = then_stepped _ _ m h in
    let t = then_stepped _ _ m s.to in
    let n = adjustments_length q closed seed s.value t.value t.from ∙ wednesdays_length (rule_in_force q) q.mask closed ds s.value s.from in
    let g : Flagged room t.value fs = record { some = omega (arith, n, f.some); fits = omega (arith, n, f.fits); between_dates = f.between_dates ∙ sym n } in
    front_flagged room _ _ _ m (end_flagged room (meet_at_end t.value) t.value fs refl g) t.to

-- ---- the law
pub steps_flagged : (q : Request) (closed : List ℕ) (room : ℕ) (s : Schedule) → steps_of q closed room ≡ given s → Flagged (min room 4096) s.dates s.flags
unfolding steps_of
steps_flagged q closed room s h =
    let a = then_stepped _ _ s h in
    let b = then_stepped _ _ s a.to in
    let f = finish_flagged (min room 4096) q closed a.value.seed a.value.dates a.value.flags b.value (generate_flagged q closed (min room 4096) a.value a.from) b.from in
    let e : ◌≡◌ {A = Schedule} (record { dates = b.value.dates; flags = b.value.flags; tries = a.value.tries }) s = one_given (given s) _ s (sym b.to) refl in
    rw (← e) f

pub build_flagged : (q : Request) (closed : List ℕ) (dates flags : ℕ) (s : Schedule) → build_of q closed dates flags ≡ given s → Flagged (min dates 4096) s.dates s.flags
unfolding build_of admitted
build_flagged q closed dates flags s h = by (first_row (input_rows q closed dates flags)) h
  where
    by : (n : ℕ) → admitted n (steps_of q closed) dates ≡ given s → Flagged (min dates 4096) s.dates s.flags
    by zero e = steps_flagged q closed dates s e
    by (suc n) e = absurd (never_both _ s (suc n) e refl)
