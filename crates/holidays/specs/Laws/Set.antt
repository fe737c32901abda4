-- The list is the set of the events' days: a day is in it exactly if some event has it, and it ascends strictly.
-- Assumes nothing.
use Rattle.std.specs.Prelude.{ℕ, zero, suc, ◌+◌, ◌-◌, ◌≤◌, ◌<◌, min, ◌≡◌, refl, Bool, true, false, ◌⊎◌, List, [], ◌∷◌, eqb, leb, ltb, length}
use Rattle.std.proofs.Common.{sym, subst, inl, inr, ⊎_elim, arith, ltb-true, ltb-false, leb-true, eqb-true}
use Rattle.std.proofs.lemmas.Bool.{eqb-false}
use Rattle.refusal.specs.Answer.{ICAL}
use Rattle.holidays.specs.Words.{Bytes, pick, Course, ended, refused_at, next}
use Rattle.holidays.specs.Lines.{lines_of}
use Rattle.holidays.specs.Nesting.{nested}
use Rattle.holidays.specs.Events.{Event, events}
use Rattle.holidays.specs.Laws.Listed.{◌∈◌, Ascending, Lists, one_list}
use Rattle.holidays.specs.Import.{days, refused_at_lem, by_order, insert, add, with_event, MOST, fits, on_room, on_days, gathered, size_ok, import_of}

-- ---- a day inserted
pub insert_in : (d : ℕ) (xs : List ℕ) (y : ℕ) → y ∈ insert d xs → (y ≡ d) ⊎ (y ∈ xs)
unfolding insert by_order
insert_in d [] y (inl e) = inl e
insert_in d [] y (inr b) = absurd b
insert_in d (x ∷ xs) y h = go (insert_in d xs y) (ltb d x) (eqb d x) h
  where
    go : (y ∈ insert d xs → (y ≡ d) ⊎ (y ∈ xs)) → (a e : Bool) → y ∈ by_order a e d x xs (λ u. insert d xs) → (y ≡ d) ⊎ (y ∈ (x ∷ xs))
    go on true e i = i
    go on false true i = inr i
    go on false false (inl q) = inr (inl q)
    go on false false (inr i) = ⊎_elim (λ (q : y ≡ d). inl q) (λ (q : y ∈ xs). inr (inr q)) (on i)

pub insert_has : (d : ℕ) (xs : List ℕ) → d ∈ insert d xs
unfolding insert by_order
insert_has d [] = inl refl
insert_has d (x ∷ xs) = go (insert_has d xs) (ltb d x) (eqb d x) refl
  where
    go : d ∈ insert d xs → (a e : Bool) → eqb d x ≡ e → d ∈ by_order a e d x xs (λ u. insert d xs)
    go on true e q = inl refl
    go on false true q = inl (eqb-true d x q)
    go on false false q = inr on

pub insert_keeps : (d : ℕ) (xs : List ℕ) (y : ℕ) → y ∈ xs → y ∈ insert d xs
unfolding insert by_order
insert_keeps d [] y h = absurd h
insert_keeps d (x ∷ xs) y h = go (insert_keeps d xs y) (ltb d x) (eqb d x) h
  where
    go : (y ∈ xs → y ∈ insert d xs) → (a e : Bool) → y ∈ (x ∷ xs) → y ∈ by_order a e d x xs (λ u. insert d xs)
    go on true e i = inr i
    go on false true i = i
    go on false false (inl q) = inl q
    go on false false (inr i) = inr (on i)

pub insert_ascends : (d : ℕ) (xs : List ℕ) → Ascending xs → Ascending (insert d xs)
unfolding insert by_order
insert_ascends d [] h = (λ y b. absurd b, tt)
insert_ascends d (x ∷ xs) h = go (insert_ascends d xs h.1) (ltb d x) (eqb d x) refl refl
  where
    before : d < x → (y : ℕ) → y ∈ (x ∷ xs) → d < y
    before l y (inl q) = omega arith
    before l y (inr i) = omega (arith, h.0 y i)

    behind : x < d → (y : ℕ) → (y ≡ d) ⊎ (y ∈ xs) → x < y
    behind l y (inl q) = omega arith
    behind l y (inr i) = h.0 y i

    apart : ltb d x ≡ false → eqb d x ≡ false → x < d
    apart p q = let n : ¬ (d ≡ x) = eqb-false d x q in omega (arith, ltb-false d x p)

    go : Ascending (insert d xs) → (a e : Bool) → ltb d x ≡ a → eqb d x ≡ e → Ascending (by_order a e d x xs (λ u. insert d xs))
    go on true e p q = (before (ltb-true d x p), h)
    go on false true p q = h
    go on false false p q = (λ y i. behind (apart p q) y (insert_in d xs y i), on)

-- ---- days added
pub add_in : (n d : ℕ) (xs : List ℕ) (y : ℕ) → y ∈ add n d xs → ((d ≤ y) × (y < d + n)) ⊎ (y ∈ xs)
unfolding add
add_in zero d xs y h = inr h
add_in (suc n) d xs y h =
    ⊎_elim
    (λ (q : y ≡ d). inl (omega arith, omega arith))
    (λ (i : y ∈ add n (suc d) xs).
    ⊎_elim (λ (q : (suc d ≤ y) × (y < suc d + n)). inl (omega arith, omega arith)) (λ (j : y ∈ xs). inr j) (add_in n (suc d) xs y i))
    (insert_in d (add n (suc d) xs) y h)

pub add_has : (n d : ℕ) (xs : List ℕ) (y : ℕ) → d ≤ y → y < d + n → y ∈ add n d xs
unfolding add
add_has zero d xs y h l = let bad : ⊥ = omega arith in absurd bad
add_has (suc n) d xs y h l = go (add_has n (suc d) xs y) (eqb y d) refl
  where
    go : (suc d ≤ y → y < suc d + n → y ∈ add n (suc d) xs) → (e : Bool) → eqb y d ≡ e → y ∈ insert d (add n (suc d) xs)
    go on true q = subst (λ (k : ℕ). k ∈ insert d (add n (suc d) xs)) (sym (eqb-true y d q)) (insert_has d (add n (suc d) xs))
    go on false q =
        let o : ¬ (y ≡ d) = eqb-false y d q in
        insert_keeps d (add n (suc d) xs) y (on (omega arith) (omega arith))

pub add_keeps : (n d : ℕ) (xs : List ℕ) (y : ℕ) → y ∈ xs → y ∈ add n d xs
unfolding add
add_keeps zero d xs y h = h
add_keeps (suc n) d xs y h = insert_keeps d (add n (suc d) xs) y (add_keeps n (suc d) xs y h)

pub add_ascends : (n d : ℕ) (xs : List ℕ) → Ascending xs → Ascending (add n d xs)
unfolding add
add_ascends zero d xs h = h
add_ascends (suc n) d xs h = insert_ascends d (add n (suc d) xs) (add_ascends n (suc d) xs h)

-- ---- events: a day is one of the event's from its first up to, not including, its end
abbrev pub InEvent : Event → ℕ → Type 0
InEvent e d = (e.first ≤ d) × (d < e.past)

-- some event of the course has the day
abbrev pub Has : Course Event → ℕ → Type 0
Has ended d = ⊥
Has (refused_at number line) d = ⊥
Has (next e es) d = InEvent e d ⊎ Has es d

pub event_in : (e : Event) (xs : List ℕ) (d : ℕ) → d ∈ with_event e xs → InEvent e d ⊎ (d ∈ xs)
unfolding with_event
event_in e xs d h =
    ⊎_elim
    (λ (q : (e.first ≤ d) × (d < e.first + (e.past - e.first))). inl (omega arith, omega arith))
    (λ (i : d ∈ xs). inr i)
    (add_in (e.past - e.first) e.first xs d h)

pub event_has : (e : Event) (xs : List ℕ) (d : ℕ) → InEvent e d → d ∈ with_event e xs
unfolding with_event
event_has e xs d h = add_has (e.past - e.first) e.first xs d h.0 (omega arith)

pub event_keeps : (e : Event) (xs : List ℕ) (d : ℕ) → d ∈ xs → d ∈ with_event e xs
unfolding with_event
event_keeps e xs d h = add_keeps (e.past - e.first) e.first xs d h

pub event_ascends : (e : Event) (xs : List ℕ) → Ascending xs → Ascending (with_event e xs)
unfolding with_event
event_ascends e xs h = add_ascends (e.past - e.first) e.first xs h

-- ---- the days gathered
never_days : {A : Type 0} (number line : ℕ) (ds : List ℕ) → refused_at_lem number line ≡ days ds → A
never_days number line ds h = let z : ◌≡◌ {A = ℕ} 0 1 = cc in let bad : ⊥ = omega arith in absurd bad

-- the list began as some days that fit, and it is these and the events' days
pub record Gathered (room : ℕ) (es : Course Event) (xs ds : List ℕ) : Type 0 where
  pub only : (d : ℕ) → d ∈ ds → (d ∈ xs) ⊎ Has es d
  pub kept : (d : ℕ) → d ∈ xs → d ∈ ds
  pub all : (d : ℕ) → Has es d → d ∈ ds
  pub ascends : Ascending ds
  pub room_for : length ds ≤ min room MOST

ended_gathered : (room : ℕ) (xs ds : List ℕ) → Ascending xs → length xs ≤ min room MOST → xs ≡ ds → Gathered room ended xs ds
ended_gathered room xs ds a l e =
    subst
    (λ (zs : List ℕ). Gathered room ended xs zs)
    e
    (record { only = λ d h. inl h; kept = λ d h. h; all = λ d h. absurd h; ascends = a; room_for = l })

more_gathered : (room : ℕ) (e : Event) (es : Course Event) (xs ds : List ℕ) → Gathered room es (with_event e xs) ds → Gathered room (next e es) xs ds
more_gathered room e es xs ds g =
    record {
      only = λ d h. ⊎_elim (λ (i : d ∈ with_event e xs). ⊎_elim (λ (j : InEvent e d). inr (inl j)) (λ (j : d ∈ xs). inl j) (event_in e xs d i)) (λ (i : Has es d). inr (inr i)) (g.only d h);
      kept = λ d h. g.kept d (event_keeps e xs d h);
      all = λ d. ⊎_elim (λ (i : InEvent e d). g.kept d (event_has e xs d i)) (λ (i : Has es d). g.all d i);
      ascends = g.ascends;
      room_for = g.room_for;
    }

pub gathers : (room : ℕ) (es : Course Event) (xs ds : List ℕ) → Ascending xs → length xs ≤ min room MOST → gathered room es xs ≡ days ds → Gathered room es xs ds
unfolding gathered on_days on_room fits
gathers room ended xs ds a l h = ended_gathered room xs ds a l (let q : xs ≡ ds = cc in q)
gathers room (refused_at number line) xs ds a l h = never_days number line ds h
gathers room (next e es) xs ds a l h = go (gathers room es (with_event e xs) ds (event_ascends e xs a)) (leb (length (with_event e xs)) (min room MOST)) refl h
  where
    go : (length (with_event e xs) ≤ min room MOST → gathered room es (with_event e xs) ≡ days ds → Gathered room es (with_event e xs) ds) → (b : Bool) → leb (length (with_event e xs)) (min room MOST) ≡ b → on_room b room e.line (with_event e xs) (gathered room es) ≡ days ds → Gathered room (next e es) xs ds
    go on true p q = more_gathered room e es xs ds (on (leb-true (length (with_event e xs)) (min room MOST) p) q)
    go on false p q = never_days _ _ ds q

-- ---- the import
-- the events of a file, up to the first refusal
unfoldable pub events_of : Bytes → Course Event
events_of file = events (nested (lines_of file))

pub import_gathers : (file : Bytes) (room : ℕ) (ds : List ℕ) → import_of file room ≡ days ds → Gathered room (events_of file) [] ds
unfolding import_of pick events_of
import_gathers file room ds h = go (size_ok (length file)) h
  where
    go : (b : Bool) → pick b (gathered room (events (nested (lines_of file))) []) (refused_at_lem ICAL 0) ≡ days ds → Gathered room (events (nested (lines_of file))) [] ds
    go true q = gathers room (events (nested (lines_of file))) [] ds tt (omega arith) q
    go false q = never_days ICAL 0 ds q

-- the set: the list has exactly the days of the file's events, ascending
pub the_set : (file : Bytes) (room : ℕ) (ds : List ℕ) → import_of file room ≡ days ds → Lists (Has (events_of file)) ds
the_set file room ds h =
    let g = import_gathers file room ds h in
    record {
      only = λ d i. ⊎_elim (λ (b : d ∈ []). absurd b) (λ (j : Has (events_of file) d). j) (g.only d i);
      all = g.all;
      ascends = g.ascends;
    }

-- two lists that say so are the same
pub no_other_list : (file : Bytes) (room : ℕ) (ds es : List ℕ) → import_of file room ≡ days ds → Lists (Has (events_of file)) es → es ≡ ds
no_other_list file room ds es h o = one_list o (the_set file room ds h)

-- ---- order is nothing: two files whose events have the same days give the same list
pub same_days : (file other : Bytes) (room place : ℕ) (ds es : List ℕ) → import_of file room ≡ days ds → import_of other place ≡ days es → ((d : ℕ) → Has (events_of file) d → Has (events_of other) d) → ((d : ℕ) → Has (events_of other) d → Has (events_of file) d) → ds ≡ es
same_days file other room place ds es h i to from =
    let a = the_set file room ds h in
    let b = the_set other place es i in
    one_list a (record { only = λ d k. from d (b.only d k); all = λ d k. b.all d (to d k); ascends = b.ascends })
