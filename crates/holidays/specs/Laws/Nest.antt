-- Laws of the stack of open parts: by its depth alone it is known what may begin, and whether a line stands directly in a VEVENT.
-- Assumes nothing.
use Prim.Native.Nat.{ℕ, zero, suc, ◌+◌, ◌-◌, ◌≤◌, ◌<◌}
use Rattle.std.specs.Prelude.{◌≡◌, Bool, not, ◌&&◌, ◌||◌, List, [], ◌∷◌, eqb, leb, length, get_or, set}
use Rattle.std.proofs.Math.Path.{refl, ap}
use Rattle.std.proofs.Common.{sym, ◌∙◌, add-one, arith, get_or-set_same, get_or-set_other, leb-true, ne_eqb}
use Rattle.std.proofs.Math.Bool.{true, false}
use Rattle.std.proofs.lemmas.Bool.{false≢true, lt-leb}
use Rattle.refusal.specs.Laws.Answers.{both}
use Rattle.holidays.specs.Words.{Bytes, pick, ascii, upper, uppers, equal, spells}
use Rattle.holidays.specs.Nesting.{Parts, may_begin}
use Rattle.holidays.specs.Events.{in_event}
use Rattle.holidays.specs.Laws.Letters.{equal_is}
use Rattle.holidays.specs.Laws.Pieces.{number_spells}
use Rattle.holidays.specs.Inner.Letters.{letter, pack, packs}
use Rattle.holidays.specs.Inner.Along.{ahead}
use Rattle.holidays.specs.Inner.Parts.{parts_of, CALENDAR_IS, EVENT_IS, may_begin_by, NestIsOk}

-- ---- the two names by their numbers
pub calendar_is : (s : Bytes) → eqb (packs 1 s) CALENDAR_IS ≡ spells s "VCALENDAR"
unfolding ascii uppers upper pick packs pack letter
calendar_is s = number_spells s "VCALENDAR" CALENDAR_IS refl (λ z. omega (arith, z)) refl

pub event_is : (s : Bytes) → eqb (packs 1 s) EVENT_IS ≡ spells s "VEVENT"
unfolding ascii uppers upper pick packs pack letter
event_is s = number_spells s "VEVENT" EVENT_IS refl (λ z. omega (arith, z)) refl

-- capitals stay
upper_twice : (b : ℕ) → upper (upper b) ≡ upper b
unfolding upper pick
upper_twice b = go (leb 97 b && leb b 122) refl
  where
    go : (x : Bool) → (leb 97 b && leb b 122) ≡ x → pick (leb 97 (pick x (b - 32) b) && leb (pick x (b - 32) b) 122) (pick x (b - 32) b - 32) (pick x (b - 32) b) ≡ pick x (b - 32) b
    go true e =
        let t = both (leb 97 b) (leb b 122) e in
        let l : b - 32 < 97 = omega (arith, leb-true b 122 t.1) in
        rw (lt-leb 97 (b - 32) l)
    go false e = rw e

uppers_twice : (s : Bytes) → uppers (uppers s) ≡ uppers s
unfolding uppers
uppers_twice [] = refl
uppers_twice (b ∷ s) = ap (λ (x : ℕ). x ∷ uppers (uppers s)) (upper_twice b) ∙ ap (λ (t : Bytes). upper b ∷ t) (uppers_twice s)

calendar_upper : (s : Bytes) → spells (uppers s) "VCALENDAR" ≡ spells s "VCALENDAR"
unfolding spells
calendar_upper s = ap (λ (t : Bytes). equal t (ascii "VCALENDAR")) (uppers_twice s)

event_upper : (s : Bytes) → spells (uppers s) "VEVENT" ≡ spells s "VEVENT"
unfolding spells
event_upper s = ap (λ (t : Bytes). equal t (ascii "VEVENT")) (uppers_twice s)

-- ---- by the depth
pub parts_long : (file : Bytes) (stack : List ℕ) (n : ℕ) → length (parts_of file stack n) ≡ n
unfolding parts_of
parts_long file stack zero = refl
parts_long file stack (suc n) = ap suc (parts_long file stack n)

begins_at : (name : Bytes) (e : Bool) (ps : Parts) → NestIsOk e ps → may_begin name ps ≡ may_begin_by (length ps) (packs 1 name)
unfolding may_begin may_begin_by NestIsOk pick
begins_at name e [] h = sym (calendar_is name)
begins_at name e (p ∷ []) h = rw (calendar_is name, h) (go (spells name "VCALENDAR") (spells name "VEVENT"))
  where
    go : (x y : Bool) → (not x && (not y || true)) ≡ pick x false true
    go true y = refl
    go false true = refl
    go false false = refl
begins_at name e (p ∷ q ∷ []) h = rw (calendar_is name, event_is name, h.0) (go (spells name "VCALENDAR") (spells name "VEVENT"))
  where
    go : (x y : Bool) → (not x && (not y || false)) ≡ pick x false (not y)
    go true y = refl
    go false true = refl
    go false false = refl
begins_at name e (p ∷ q ∷ r ∷ ps) h =
    rw (ne_eqb (suc (suc (suc (length ps)))) 0 (λ z. omega (arith, z)), ne_eqb (suc (suc (suc (length ps)))) 1 (λ z. omega (arith, z)), calendar_is name, event_is name, h.0) (go (spells name "VCALENDAR") (spells name "VEVENT"))
  where
    go : (x y : Bool) → (not x && (not y || false)) ≡ pick x false (not y)
    go true y = refl
    go false true = refl
    go false false = refl

pub begins_so : (name : Bytes) (e : Bool) (ps : Parts) (n : ℕ) → NestIsOk e ps → length ps ≡ n → may_begin name ps ≡ may_begin_by n (packs 1 name)
begins_so name e ps n h l = begins_at name e ps h ∙ ap (λ (k : ℕ). may_begin_by k (packs 1 name)) l

-- a VCALENDAR is no VEVENT
not_both : (p : Bytes) → spells p "VCALENDAR" ≡ true → spells p "VEVENT" ≡ false
unfolding spells equal ascii
not_both p h =
    let e : uppers p ≡ ascii "VCALENDAR" = equal_is (uppers p) (ascii "VCALENDAR") h in
    ap (λ (t : Bytes). equal t (ascii "VEVENT")) e

pub inside_so : (e : Bool) (ps : Parts) (n : ℕ) → NestIsOk e ps → length ps ≡ n → in_event ps ≡ (eqb n 2 && e)
unfolding in_event NestIsOk
inside_so e [] n h l = rw (sym l)
inside_so e (p ∷ []) n h l = rw (sym l) (not_both p h)
inside_so e (p ∷ q ∷ []) n h l = rw (sym l) h.1.0
inside_so e (p ∷ q ∷ r ∷ ps) n h l = h.1.0 ∙ sym (ap (λ (x : Bool). x && e) (ne_eqb n 2 (λ z. omega (arith, l, z))))

-- ---- one more part
nest_first : (name : Bytes) (e : Bool) → spells name "VCALENDAR" ≡ true → NestIsOk e (uppers name ∷ [])
unfolding NestIsOk
nest_first name e h = calendar_upper name ∙ h

nest_second : (name : Bytes) (e : Bool) (p : Bytes) → NestIsOk e (p ∷ []) → spells name "VCALENDAR" ≡ false → NestIsOk (spells name "VEVENT") (uppers name ∷ p ∷ [])
unfolding NestIsOk
nest_second name e p h c = (calendar_upper name ∙ c, (event_upper name, h))

nest_more : (name : Bytes) (e : Bool) (p q : Bytes) (ps : Parts) → NestIsOk e (p ∷ q ∷ ps) → spells name "VCALENDAR" ≡ false → spells name "VEVENT" ≡ false → NestIsOk e (uppers name ∷ p ∷ q ∷ ps)
unfolding NestIsOk
nest_more name e p q ps h c v = (calendar_upper name ∙ c, (event_upper name ∙ v, h))

pub nest_less : (e : Bool) (p : Bytes) (ps : Parts) → NestIsOk e (p ∷ ps) → NestIsOk e ps
unfolding NestIsOk
nest_less e p [] h = tt
nest_less e p (q ∷ []) h = h.1.1
nest_less e p (q ∷ r ∷ ps) h = h.1.1

-- ---- a place put on the stack
module _ (file : Bytes) (stack : List ℕ) (v : ℕ) where
  kept_below : (n k : ℕ) → k ≤ n → parts_of file (set stack n v) k ≡ parts_of file stack k
  unfolding parts_of
  kept_below n zero h = refl
  kept_below n (suc k) h =
      ap (λ (i : ℕ). uppers (ahead file i 0) ∷ parts_of file (set stack n v) k) (get_or-set_other stack n k v 0 (λ e. omega (arith, e)))
      ∙ ap (λ (ps : Parts). uppers (ahead file (get_or stack k 0) 0) ∷ ps) (kept_below n k (omega arith))

  pub part_put : (n : ℕ) → n < length stack → parts_of file (set stack n v) (n + 1) ≡ uppers (ahead file v 0) ∷ parts_of file stack n
  unfolding parts_of
  part_put n h =
      ap (parts_of file (set stack n v)) (add-one n)
      ∙ ap (λ (i : ℕ). uppers (ahead file i 0) ∷ parts_of file (set stack n v) n) (get_or-set_same stack n v 0 h)
      ∙ ap (λ (ps : Parts). uppers (ahead file v 0) ∷ ps) (kept_below n n (omega arith))

-- what may begin keeps the nesting; the flag is told anew by the second part alone
module _ (name : Bytes) (e : Bool) (ps : Parts) (n : ℕ) (h : NestIsOk e ps) (l : length ps ≡ n) (m : may_begin_by n (packs 1 name) ≡ true) where
  pub nest_event : n ≡ 1 → NestIsOk (eqb (packs 1 name) EVENT_IS) (uppers name ∷ ps)
  unfolding may_begin_by pick
  nest_event z = go ps h l
    where
      calendar_not : (x : Bool) → pick x false true ≡ true → x ≡ false
      calendar_not true q = absurd (false≢true q)
      calendar_not false q = refl

      go : (ps : Parts) → NestIsOk e ps → length ps ≡ n → NestIsOk (eqb (packs 1 name) EVENT_IS) (uppers name ∷ ps)
      go [] i k = let bad : ⊥ = omega (arith, k, z) in absurd bad
      go (p ∷ []) i k =
          let c : spells name "VCALENDAR" ≡ false = sym (calendar_is name) ∙ calendar_not (eqb (packs 1 name) CALENDAR_IS) (rw z at m) in
          rw (event_is name) (nest_second name e p i c)
      go (p ∷ q ∷ ps) i k = let bad : ⊥ = omega (arith, k, z) in absurd bad

  pub nest_kept : (n ≡ 1 → ⊥) → NestIsOk e (uppers name ∷ ps)
  unfolding may_begin_by pick
  nest_kept z = go ps h l
    where
      neither : (x y : Bool) → pick x false (not y) ≡ true → (x ≡ false) × (y ≡ false)
      neither true y q = absurd (false≢true q)
      neither false true q = absurd (false≢true q)
      neither false false q = (refl, refl)

      go : (ps : Parts) → NestIsOk e ps → length ps ≡ n → NestIsOk e (uppers name ∷ ps)
      go [] i k = nest_first name e (sym (calendar_is name) ∙ (rw (sym k) at m))
      go (p ∷ []) i k = let bad : ⊥ = z (sym k) in absurd bad
      go (p ∷ q ∷ ps) i k =
          let t = neither (eqb (packs 1 name) CALENDAR_IS) (eqb (packs 1 name) EVENT_IS) (rw (ne_eqb n 0 (λ o. omega (arith, k, o)), ne_eqb n 1 z) at m) in
          nest_more name e p q ps i (sym (calendar_is name) ∙ t.0) (sym (event_is name) ∙ t.1)
