-- Laws of a reader's words: one for each way through the code, and that words hold the state that was put there.
-- Assumes nothing.
use Prim.Native.Nat.{ℕ, suc, ◌+◌, ◌*◌, ◌-◌, ◌/◌, ◌%◌, ◌≤◌, ◌<◌}
use mathlib.Core.Path.{◌≡◌, refl, sym, ap, ◌∙◌}
use mathlib.Core.Bool.{Bool, true, false}
use mathlib.Core.List.{List, [], ◌∷◌, ◌++◌}
use native.Mathlib.Omega.{arith}
use borrow.Author.Rules.{rules}
use borrow.Author.Tests.{lt-ltb, le-ltb, le-leb, lt-leb, ltb-true, ltb-false, leb-true, leb-false}
use lib.Dec.{leb, ltb}
use lib.ListN.{length, get_or, drop, set, drop_of_length-le}
use lib.Seq.{sets, sets-eq, drop-cons}
use Rattle.request.specs.Laws.Picks.{taken, left}
use Rattle.feeding.specs.declared.State.{State}
use Rattle.feeding.specs.Feed.{at}
use Rattle.feeding.specs.Laws.Bodies.{sets_append}
use Rattle.fed.specs.Words.{sum_of, less_of, head_of, with_places, with_state, Put, places_in, state_in, with_numbers}

-- ---- sums and differences
module _ (a b : ℕ) where
  pub sum_small : a + b < 65536 → a + b ≡ sum_of a b
  unfolding sum_of
  sum_small h = sym (taken _ _ (lt-ltb _ _ h))

  pub sum_over : 65536 ≤ a + b → a + b - 65536 ≡ sum_of a b
  unfolding sum_of
  sum_over h = sym (left _ _ (le-ltb _ _ h))

  pub less_within : b ≤ a → a - b ≡ less_of a b
  unfolding less_of
  less_within h = sym (taken _ _ (le-leb _ _ h))

  pub less_over : a < b → a + 65536 - b ≡ less_of a b
  unfolding less_of
  less_over h = sym (left _ _ (lt-leb _ _ h))

-- the library's sums and differences are these
sum_by : (a b : ℕ) → a < 65536 → b < 65536 → (c : Bool) → ltb (a + b) 65536 ≡ c → (a + b) % 65536 ≡ sum_of a b
sum_by a b h k true e = let n : (a + b) % 65536 ≡ a + b = omega (arith, ltb-true _ _ e) in n ∙ sum_small a b (ltb-true _ _ e)
sum_by a b h k false e = let n : (a + b) % 65536 ≡ a + b - 65536 = omega (arith, h, k, ltb-false _ _ e) in n ∙ sum_over a b (ltb-false _ _ e)

pub sum_wraps : (a b : ℕ) → a < 65536 → b < 65536 → (a + b) % 65536 ≡ sum_of a b
sum_wraps a b h k = sum_by a b h k (ltb (a + b) 65536) refl

less_by : (a b : ℕ) → a < 65536 → b < 65536 → (c : Bool) → leb b a ≡ c → (a + (65536 - b)) % 65536 ≡ less_of a b
less_by a b h k true e = let n : (a + (65536 - b)) % 65536 ≡ a - b = omega (arith, h, leb-true _ _ e) in n ∙ less_within a b (leb-true _ _ e)
less_by a b h k false e = let n : (a + (65536 - b)) % 65536 ≡ a + 65536 - b = omega (arith, k, leb-false _ _ e) in n ∙ less_over a b (leb-false _ _ e)

pub less_wraps : (a b : ℕ) → a < 65536 → b < 65536 → (a + (65536 - b)) % 65536 ≡ less_of a b
less_wraps a b h k = less_by a b h k (leb b a) refl

-- each undoes the other
back_by : (a b : ℕ) → a < 65536 → b < 65536 → (c : Bool) → ltb (a + b) 65536 ≡ c → less_of (sum_of a b) a ≡ b
back_by a b h k true e =
    let s : a + b ≡ sum_of a b = sum_small a b (ltb-true _ _ e) in
    let d : a + b - a ≡ less_of (a + b) a = less_within (a + b) a (omega arith) in
    let n : a + b - a ≡ b = omega arith in
    ap (λ (x : ℕ). less_of x a) (sym s) ∙ sym d ∙ n
back_by a b h k false e =
    let over : 65536 ≤ a + b = ltb-false _ _ e in
    let s : a + b - 65536 ≡ sum_of a b = sum_over a b over in
    let d : a + b - 65536 + 65536 - a ≡ less_of (a + b - 65536) a = less_over (a + b - 65536) a (omega (arith, h, k, over)) in
    let n : a + b - 65536 + 65536 - a ≡ b = omega (arith, over) in
    ap (λ (x : ℕ). less_of x a) (sym s) ∙ sym d ∙ n

pub back : (a b : ℕ) → a < 65536 → b < 65536 → less_of (sum_of a b) a ≡ b
back a b h k = back_by a b h k (ltb (a + b) 65536) refl

forth_by : (a b : ℕ) → a < 65536 → b < 65536 → (c : Bool) → leb b a ≡ c → sum_of (less_of a b) b ≡ a
forth_by a b h k true e =
    let d : a - b ≡ less_of a b = less_within a b (leb-true _ _ e) in
    let under : b ≤ a = leb-true b a e in
    let s : a - b + b ≡ sum_of (a - b) b = sum_small (a - b) b (omega (arith, h, under)) in
    let n : a - b + b ≡ a = omega (arith, under) in
    ap (λ (x : ℕ). sum_of x b) (sym d) ∙ sym s ∙ n
forth_by a b h k false e =
    let under : a < b = leb-false _ _ e in
    let d : a + 65536 - b ≡ less_of a b = less_over a b under in
    let s : a + 65536 - b + b - 65536 ≡ sum_of (a + 65536 - b) b = sum_over (a + 65536 - b) b (omega (arith, k)) in
    let n : a + 65536 - b + b - 65536 ≡ a = omega (arith, k) in
    ap (λ (x : ℕ). sum_of x b) (sym d) ∙ sym s ∙ n

pub forth : (a b : ℕ) → a < 65536 → b < 65536 → sum_of (less_of a b) b ≡ a
forth a b h k = forth_by a b h k (leb b a) refl

-- ---- a state's words
pub twelve : (ps : List ℕ) → length ps ≡ 12 → (get_or ps 0 0 ∷ get_or ps 1 0 ∷ get_or ps 2 0 ∷ get_or ps 3 0 ∷ get_or ps 4 0 ∷ get_or ps 5 0 ∷ get_or ps 6 0 ∷ get_or ps 7 0 ∷ get_or ps 8 0 ∷ get_or ps 9 0 ∷ get_or ps 10 0 ∷ get_or ps 11 0 ∷ []) ≡ ps
twelve ps e = sym (drop-cons ps 0 0 (omega (arith, e)) ∙ ap (λ (r : List ℕ). get_or ps 0 0 ∷ r) (drop-cons ps 1 0 (omega (arith, e)) ∙ ap (λ (r : List ℕ). get_or ps 1 0 ∷ r) (drop-cons ps 2 0 (omega (arith, e)) ∙ ap (λ (r : List ℕ). get_or ps 2 0 ∷ r) (drop-cons ps 3 0 (omega (arith, e)) ∙ ap (λ (r : List ℕ). get_or ps 3 0 ∷ r) (drop-cons ps 4 0 (omega (arith, e)) ∙ ap (λ (r : List ℕ). get_or ps 4 0 ∷ r) (drop-cons ps 5 0 (omega (arith, e)) ∙ ap (λ (r : List ℕ). get_or ps 5 0 ∷ r) (drop-cons ps 6 0 (omega (arith, e)) ∙ ap (λ (r : List ℕ). get_or ps 6 0 ∷ r) (drop-cons ps 7 0 (omega (arith, e)) ∙ ap (λ (r : List ℕ). get_or ps 7 0 ∷ r) (drop-cons ps 8 0 (omega (arith, e)) ∙ ap (λ (r : List ℕ). get_or ps 8 0 ∷ r) (drop-cons ps 9 0 (omega (arith, e)) ∙ ap (λ (r : List ℕ). get_or ps 9 0 ∷ r) (drop-cons ps 10 0 (omega (arith, e)) ∙ ap (λ (r : List ℕ). get_or ps 10 0 ∷ r) (drop-cons ps 11 0 (omega (arith, e)) ∙ ap (λ (r : List ℕ). get_or ps 11 0 ∷ r) (drop_of_length-le ps {i = 12} (omega (arith, e)))))))))))))))

pub places_put : (x ps : List ℕ) → length ps ≡ 12 → set (set (set (set (set (set (set (set (set (set (set (set x 8 (get_or ps 0 0)) 9 (get_or ps 1 0)) 10 (get_or ps 2 0)) 11 (get_or ps 3 0)) 12 (get_or ps 4 0)) 13 (get_or ps 5 0)) 14 (get_or ps 6 0)) 15 (get_or ps 7 0)) 16 (get_or ps 8 0)) 17 (get_or ps 9 0)) 18 (get_or ps 10 0)) 19 (get_or ps 11 0) ≡ with_places ps x
unfolding with_places
places_put x ps e = ap (sets x 8) (twelve ps e)

pub ruleset placed = (places_put, rules)

pub head_put : (s : State) (x : List ℕ) {stop others first : ℕ} → stop ≡ sum_of s.kept s.due → others ≡ less_of s.fed s.kept → first ≡ s.phase + s.finished * 256 → set (set (set (set (set (set (set (set x 0 s.kept) 1 (stop)) 2 (others)) 3 (first)) 4 s.tag) 5 s.high) 6 s.sound) 7 s.size ≡ sets x 0 (head_of s)
unfolding head_of
head_put s x a b c = λ i. sets x 0 (s.kept ∷ a i ∷ b i ∷ c i ∷ s.tag ∷ s.high ∷ s.sound ∷ s.size ∷ [])

pub state_read : (x : List ℕ) {phase finished tag high sound due fed : ℕ} {ps : List ℕ} → phase ≡ get_or x 3 0 % 256 → finished ≡ get_or x 3 0 / 256 → tag ≡ get_or x 4 0 % 256 → high ≡ get_or x 5 0 % 256 → sound ≡ get_or x 6 0 % 256
    → due ≡ less_of (get_or x 1 0) (get_or x 0 0) → fed ≡ sum_of (get_or x 2 0) (get_or x 0 0) → ps ≡ places_in x → at phase tag high sound finished due (get_or x 0 0) fed (get_or x 7 0) ps ≡ state_in x
unfolding state_in
state_read x a b c d e f g h = λ i. at (a i) (c i) (d i) (e i) (b i) (f i) (get_or x 0 0) (g i) (get_or x 7 0) (h i)

pub ruleset states = (head_put, state_read, rules)

-- words hold the state that was put there
pub record Typed (s : State) : Type 0 where
  pub phase : s.phase < 256
  pub tag : s.tag < 256
  pub high : s.high < 256
  pub sound : s.sound < 256
  pub finished : s.finished < 256
  pub due : s.due < 65536
  pub kept : s.kept < 65536
  pub fed : s.fed < 65536
  pub places : length s.places ≡ 12

module _ (s : State) (t : Typed s) (x : List ℕ) (long : length x ≡ 46) where
  abbrev ps : List ℕ
  ps = get_or s.places 0 0 ∷ get_or s.places 1 0 ∷ get_or s.places 2 0 ∷ get_or s.places 3 0 ∷ get_or s.places 4 0 ∷ get_or s.places 5 0 ∷ get_or s.places 6 0 ∷ get_or s.places 7 0 ∷ get_or s.places 8 0 ∷ get_or s.places 9 0 ∷ get_or s.places 10 0 ∷ get_or s.places 11 0 ∷ []

  in_front_lem : with_state s x ≡ head_of s ++ s.places ++ drop 20 x
  unfolding with_state with_places head_of
  in_front_lem =
      let all : length (head_of s ++ s.places) ≡ 20 = omega (arith, t.places) in
      let n : 0 + length (head_of s ++ s.places) ≡ 20 = omega (arith, all) in
      sym (sets_append x 0 (head_of s) s.places) ∙ sets-eq (head_of s ++ s.places) x 0 (omega (arith, long, all))
      ∙ ap (λ (k : ℕ). (head_of s ++ s.places) ++ drop k x) n

  read_back : state_in (head_of s ++ ps ++ drop 20 x) ≡ at ((s.phase + s.finished * 256) % 256) (s.tag % 256) (s.high % 256) (s.sound % 256) ((s.phase + s.finished * 256) / 256) (less_of (sum_of s.kept s.due) s.kept) s.kept (sum_of (less_of s.fed s.kept) s.kept) s.size ps
  unfolding state_in head_of places_in
  read_back = refl

  held : state_in (with_state s x) ≡ s
  held =
      let a : (s.phase + s.finished * 256) % 256 ≡ s.phase = omega (arith, t.phase) in
      let b : s.tag % 256 ≡ s.tag = omega (arith, t.tag) in
      let c : s.high % 256 ≡ s.high = omega (arith, t.high) in
      let d : s.sound % 256 ≡ s.sound = omega (arith, t.sound) in
      let e : (s.phase + s.finished * 256) / 256 ≡ s.finished = omega (arith, t.phase) in
      ap state_in in_front_lem ∙ ap (λ (l : List ℕ). state_in (head_of s ++ l ++ drop 20 x)) (sym (twelve s.places t.places)) ∙ read_back
      ∙ (λ i. at (a i) (b i) (c i) (d i) (e i) (back s.kept s.due t.kept t.due i) s.kept (forth s.fed s.kept t.fed t.kept i) s.size (twelve s.places t.places i))

pub state_held : (s : State) (x : List ℕ) {y x' : List ℕ} → y ≡ sets x 0 (head_of s) → x' ≡ with_places s.places y → Typed s → length x ≡ 46 → Put s x x'
unfolding with_state
state_held s x {y} {x'} a b t long =
    let put : x' ≡ with_state s x = b ∙ ap (with_places s.places) a in
    record { words = put; state = ap state_in put ∙ held s t x long }

pub typed : (s : State) → s.phase < 256 → s.tag < 256 → s.high < 256 → s.sound < 256 → s.finished < 256 → s.due < 65536 → s.kept < 65536 → s.fed < 65536 → length s.places ≡ 12 → Typed s
typed s a b c d e f g h p = record { phase = a; tag = b; high = c; sound = d; finished = e; due = f; kept = g; fed = h; places = p }

pub ruleset putting = (state_held, typed, rules)

-- ---- numbers
pub record Numbering (x₀ numbers x : List ℕ) (i : ℕ) : Type 0 where
  pub within : i ≤ 13
  pub rest : with_numbers x (20 + 2 * i) (drop i numbers) ≡ with_numbers x₀ 20 numbers

module _ {x₀ numbers : List ℕ} where
  pub numbers_start : Numbering x₀ numbers x₀ 0
  numbers_start = record { within = omega arith; rest = refl }

  module _ {x : List ℕ} {i : ℕ} (n : Numbering x₀ numbers x i) where
    pub numbers_turn : {lo up : ℕ} → i < 13 → length numbers ≡ 13 → lo ≡ get_or numbers i 0 % 65536 → up ≡ get_or numbers i 0 / 65536 → Numbering x₀ numbers (set (set x (20 + 2 * i) lo) (21 + 2 * i) up) (i + 1)
    unfolding with_numbers
    numbers_turn {lo} {up} h long a b =
        let one : i + 1 ≡ suc i = omega arith in
        let second : 21 + 2 * i ≡ 20 + 2 * i + 1 = omega arith in
        let next : 20 + 2 * (i + 1) ≡ 20 + 2 * i + 2 = omega arith in
        record {
          within = omega (arith, h);
          rest =
              (λ j. with_numbers (set (set x (20 + 2 * i) (a j)) (second j) (b j)) (next j) (drop (one j) numbers))
              ∙ ap (with_numbers x (20 + 2 * i)) (sym (drop-cons numbers i 0 (omega (arith, h, long)))) ∙ n.rest;
        }

    pub numbers_over : 13 ≤ i → length numbers ≡ 13 → x ≡ with_numbers x₀ 20 numbers
    unfolding with_numbers
    numbers_over h long = sym (ap (with_numbers x (20 + 2 * i)) (drop_of_length-le numbers {i = i} (omega (arith, h, long)))) ∙ n.rest

pub ruleset numberings = (numbers_start, numbers_turn, numbers_over, rules)
