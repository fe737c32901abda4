-- Laws of the ways through the words of a line: one for each way through the code.
-- Assumes nothing.
use Prim.Native.Nat.{ℕ, suc, ◌+◌, ◌-◌, ◌*◌, ◌≤◌, ◌<◌}
use mathlib.Core.Path.{◌≡◌, refl, sym, ap, ◌∙◌}
use mathlib.Core.Bool.{Bool, true, false, not, ◌&&◌, ◌||◌}
use mathlib.Core.List.{[], ◌∷◌}
use native.Mathlib.Omega.{arith}
use lib.Dec.{eqb, leb, ltb}
use lib.ListN.{length, drop}
use borrow.Author.Rules.{rules}
use borrow.Author.Tests.{eq-eqb, ne_eqb, le-leb, lt-leb, ltb-true, ltb-false}
use Rattle.std.specs.Char.{to_ascii_uppercase}
use Rattle.std.specs.Prelude.{Option, None, Some, is_none}
use Rattle.holidays.specs.declared.lines.Place.{Place}
use Rattle.holidays.specs.Words.{Bytes, pick, upper, uppers, equal, LF, CR, TAB, BLANK}
use Rattle.holidays.specs.Lines.{starts_with}
use Rattle.holidays.specs.Nesting.{is_blank}
use Rattle.holidays.specs.Inner.Cut.{cut_byte, cut_start, cut_from}
use Rattle.holidays.specs.Content.{turned}
use Rattle.holidays.specs.Laws.Letters.{spoilt}
use Rattle.holidays.specs.Inner.Letters.{letter, letter_number, IsLetter, Lettered, LONG, pack, packs}
use Rattle.holidays.specs.Inner.Pieces.{Pieced, is_stop, by_stop, piece, mark_number, ReadsPiece}
use Rattle.holidays.specs.Inner.Along.{ahead, Before, Inside, Took, IsStepped, Steps}

-- ---- a selector
pub taken : {A : Type 0} (b : Bool) (x y : A) → b ≡ true → x ≡ pick b x y
unfolding pick
taken b x y e = rw e

pub left : {A : Type 0} (b : Bool) (x y : A) → b ≡ false → y ≡ pick b x y
unfolding pick
left b x y e = rw e

-- ---- letters
both_so : (a b : Bool) → a ≡ true → b ≡ true → (a && b) ≡ true
both_so a b p q = rw (p, q)

not_first : (a b : Bool) → a ≡ false → (a && b) ≡ false
not_first a b p = rw p

not_second : (a b : Bool) → b ≡ false → (a && b) ≡ false
not_second true b p = p
not_second false b p = refl

-- what two tests, one of which failed, leave
data Out (low high b : ℕ) : Type 0 where
  below : b < low → Out low high b
  above : high < b → Out low high b

out : (low high b : ℕ) → Out low high b → (leb low b && leb b high) ≡ false
out low high b (below h) = not_first _ _ (lt-leb low b h)
out low high b (above h) = not_second (leb low b) _ (lt-leb b high h)

module _ {b : ℕ} where
  pub letter_large : 65 ≤ b → b ≤ 90 → Lettered b (Some (b - 65 + 1))
  unfolding letter letter_number IsLetter
  letter_large h i =
      let e : b - 65 + 1 ≡ b - 64 = omega arith in
      record { same = e ∙ taken _ _ _ (both_so _ _ (le-leb 65 b h) (le-leb b 90 i)); small = (omega arith, omega arith) }

  pub letter_small : 97 ≤ b → b ≤ 122 → Lettered b (Some (b - 97 + 1))
  unfolding letter letter_number IsLetter
  letter_small h i =
      let e : b - 97 + 1 ≡ b - 96 = omega arith in
      record {
        same = e ∙ taken _ _ _ (both_so _ _ (le-leb 97 b h) (le-leb b 122 i)) ∙ left _ _ _ (out 65 90 b (above (omega arith)));
        small = (omega arith, omega arith);
      }

  pub hyphen_is : b ≡ 45 → Lettered b (Some 27)
  unfolding letter letter_number IsLetter
  hyphen_is e =
      record {
        same = taken _ _ _ (eq-eqb b 45 e) ∙ left _ _ _ (out 97 122 b (below (omega arith))) ∙ left _ _ _ (out 65 90 b (below (omega arith)));
        small = (omega arith, omega arith);
      }

  no_letter : (b ≡ 45 → ⊥) → Out 65 90 b → Out 97 122 b → Lettered b None
  unfolding letter letter_number IsLetter
  no_letter e g h = record { same = left _ _ _ (ne_eqb b 45 e) ∙ left _ _ _ (out 97 122 b h) ∙ left _ _ _ (out 65 90 b g); small = tt }

  pub none_low : (b ≡ 45 → ⊥) → b < 65 → Lettered b None
  none_low e g = no_letter e (below g) (below (omega arith))

  pub none_between : 90 < b → b < 97 → Lettered b None
  none_between g h = no_letter (λ e. omega arith) (above g) (below h)

  pub none_high : 122 < b → Lettered b None
  none_high g = no_letter (λ e. omega arith) (above (omega arith)) (above g)

pub ruleset letters = (letter_large, letter_small, hyphen_is, none_low, none_between, none_high, rules)

-- ---- one more letter
pub pack_spoilt : (k b : ℕ) → k ≡ 0 → 0 ≡ pack k b
unfolding pack
pack_spoilt k b e = taken _ _ _ (eq-eqb k 0 e)

module _ (k b : ℕ) (some : k ≡ 0 → ⊥) where
  pub pack_long : LONG ≤ k → 0 ≡ pack k b
  unfolding pack
  pack_long h = taken _ _ _ (le-leb LONG k h) ∙ left _ _ _ (ne_eqb k 0 some)

  module _ {r : Option ℕ} (h : k < LONG) (g : Lettered b r) where
    pub pack_none : r ≡ None → 0 ≡ pack k b
    unfolding pack letter_number
    pack_none e =
        taken _ _ _ (eq-eqb (letter b) 0 (sym g.same ∙ ap letter_number e)) ∙ left _ _ _ (lt-leb LONG k h) ∙ left _ _ _ (ne_eqb k 0 some)

    pub pack_one : (l : ℕ) → r ≡ Some l → k * 32 + l ≡ pack k b
    unfolding pack letter_number IsLetter
    pack_one l e =
        let n : letter b ≡ l = sym g.same ∙ ap letter_number e in
        let s : (1 ≤ l) × (l < 32) = rw e at g.small in
        ap (λ (x : ℕ). k * 32 + x) (sym n) ∙ left _ _ _ (ne_eqb (letter b) 0 (λ z. omega (arith, n, z, s.0))) ∙ left _ _ _ (lt-leb LONG k h) ∙ left _ _ _ (ne_eqb k 0 some)

    pub pack_fits : (l : ℕ) → r ≡ Some l → k * 32 + l < 18446744073709551616
    unfolding IsLetter
    pack_fits l e = let s : (1 ≤ l) × (l < 32) = rw e at g.small in omega (arith, s.1)

pub ruleset packing = (pack_spoilt, pack_long, pack_none, pack_one, pack_fits, rules)

-- ---- marks and quotes
module _ (equals quoted : Bool) (b : ℕ) where
  pub stop_colon : b ≡ 58 → not quoted ≡ is_stop equals quoted b
  unfolding is_stop
  stop_colon e = taken _ _ _ (eq-eqb b 58 e)

  pub stop_semicolon : b ≡ 59 → not quoted ≡ is_stop equals quoted b
  unfolding is_stop
  stop_semicolon e = taken _ _ _ (eq-eqb b 59 e) ∙ left _ _ _ (ne_eqb b 58 (λ h. omega arith))

  pub stop_equals : b ≡ 61 → equals ≡ is_stop equals quoted b
  unfolding is_stop
  stop_equals e =
      taken _ _ _ (eq-eqb b 61 e) ∙ left _ _ _ (ne_eqb b 59 (λ h. omega arith)) ∙ left _ _ _ (ne_eqb b 58 (λ h. omega arith))

  pub stop_other : (b ≡ 61 → ⊥) → (b ≡ 58 → ⊥) → (b ≡ 59 → ⊥) → false ≡ is_stop equals quoted b
  unfolding is_stop
  stop_other e f g = left _ _ _ (ne_eqb b 61 e) ∙ left _ _ _ (ne_eqb b 59 g) ∙ left _ _ _ (ne_eqb b 58 f)

pub quote_turns : (b : ℕ) (quoted : Bool) → b ≡ 34 → not quoted ≡ turned (eqb b 34) quoted
unfolding turned
quote_turns b quoted e = rw (eq-eqb b 34 e)

pub no_quote : (b : ℕ) (quoted : Bool) → (b ≡ 34 → ⊥) → quoted ≡ turned (eqb b 34) quoted
unfolding turned
no_quote b quoted e = rw (ne_eqb b 34 e)

pub ruleset marks = (stop_equals, stop_colon, stop_semicolon, stop_other, quote_turns, no_quote, rules)

-- ---- what a step tells
pub took : {file : Bytes} {at line : ℕ} {r : Option (ℕ × Place)} (b : ℕ) (p : Place) → Steps file at line r → r ≡ Some (b, p) → Took file at line b p.at p.line
unfolding IsStepped
took b p s e = rw e at s.so

pub none_left : {file : Bytes} {at line : ℕ} {r : Option (ℕ × Place)} → Steps file at line r → r ≡ None → ahead file at line ≡ []
unfolding IsStepped
none_left s e = rw e at s.so

-- nothing left of the line
pub over_so : {file : Bytes} {at line : ℕ} {r : Option (ℕ × Place)} → Steps file at line r → is_none r ≡ is_blank (ahead file at line)
unfolding IsStepped is_blank
over_so {file} {at} {line} {r} s = go r refl
  where
    go : (o : Option (ℕ × Place)) → r ≡ o → is_none o ≡ is_blank (ahead file at line)
    go None e = sym (ap is_blank (none_left s e))
    go (Some n) e = sym (ap is_blank (took n.0 n.1 s e).bytes)

pub ruleset overs = (over_so, rules)

-- places one after the other
pub inside_here : {file : Bytes} {at line : ℕ} → Before file at line → Inside file at line at line
inside_here b = record { rest = refl; number = refl; before = b; later = omega arith; far = omega arith }

pub inside_on : {file : Bytes} {at line i n j m : ℕ} → Inside file at line i n → Inside file i n j m → Inside file at line j m
inside_on p q =
    record {
      rest = q.rest ∙ p.rest;
      number = q.number ∙ p.number;
      before = q.before;
      later = omega (arith, p.later, q.later);
      far = omega (arith, p.far, q.far);
    }

-- ---- a piece
pub record Piecing (file : Bytes) (at line : ℕ) (equals quoted : Bool) (i n k : ℕ) (q : Bool) : Type 0 where
  pub same : piece equals q k (ahead file i n) ≡ piece equals quoted 1 (ahead file at line)
  pub inside : Inside file at line i n

pub piece_start : {file : Bytes} {at line : ℕ} {equals quoted : Bool} → Before file at line → Piecing file at line equals quoted at line 1 quoted
piece_start b = record { same = refl; inside = inside_here b }

module _ {file : Bytes} {at line : ℕ} {equals quoted : Bool} {i n k : ℕ} {q : Bool} (g : Piecing file at line equals quoted i n k q) where
  pub piece_before : Before file i n
  piece_before = g.inside.before

  module _ {r : Option (ℕ × Place)} (s : Steps file i n r) where
    pub piece_end : r ≡ None → ReadsPiece file at line equals quoted (record { number = k; mark = None; quoted = q; place = record { at = i; line = n } })
    unfolding piece mark_number
    piece_end e =
        let a = none_left s e in
        let p : piece equals quoted 1 (ahead file at line) ≡ record { number = k; mark = 0; quoted = q; rest = [] } = sym g.same ∙ ap (piece equals q k) a in
        record {
          number = sym (ap (λ (x : Pieced). x.number) p);
          mark = sym (ap (λ (x : Pieced). x.mark) p);
          quotes = sym (ap (λ (x : Pieced). x.quoted) p);
          rest = a ∙ sym (ap (λ (x : Pieced). x.rest) p);
          inside = g.inside;
          further = λ b z. absurd cc;
        }

    module _ (b : ℕ) (p : Place) (e : r ≡ Some (b, p)) where
      onward : piece equals quoted 1 (ahead file at line) ≡ by_stop (is_stop equals q b) q k b (ahead file p.at p.line) (piece equals (turned (eqb b 34) q) (pack k b) (ahead file p.at p.line))
      unfolding piece
      onward = sym g.same ∙ ap (piece equals q k) (took b p s e).bytes

      module _ {t : Bool} (u : t ≡ is_stop equals q b) where
        pub piece_stop : t ≡ true → ReadsPiece file at line equals quoted (record { number = k; mark = Some b; quoted = q; place = p })
        unfolding by_stop mark_number
        piece_stop h =
            let o : piece equals quoted 1 (ahead file at line) ≡ record { number = k; mark = b; quoted = q; rest = ahead file p.at p.line } = onward ∙ ap (λ (x : Bool). by_stop x q k b (ahead file p.at p.line) (piece equals (turned (eqb b 34) q) (pack k b) (ahead file p.at p.line))) (sym u ∙ h) in
            record {
              number = sym (ap (λ (x : Pieced). x.number) o);
              mark = sym (ap (λ (x : Pieced). x.mark) o);
              quotes = sym (ap (λ (x : Pieced). x.quoted) o);
              rest = sym (ap (λ (x : Pieced). x.rest) o);
              inside = inside_on g.inside (took b p s e).inside;
              further = λ c z. omega (arith, g.inside.later, (took b p s e).further);
            }

        pub piece_on : {l : ℕ} {v : Bool} → t ≡ false → l ≡ pack k b → v ≡ turned (eqb b 34) q → Piecing file at line equals quoted p.at p.line l v
        unfolding by_stop
        piece_on {l} {v} h x y =
            record {
              same = rw (x, y) (sym (onward ∙ ap (λ (z : Bool). by_stop z q k b (ahead file p.at p.line) (piece equals (turned (eqb b 34) q) (pack k b) (ahead file p.at p.line))) (sym u ∙ h)));
              inside = inside_on g.inside (took b p s e).inside;
            }

      pub piece_less : length file - p.at < length file - i
      piece_less = let o = took b p s e in omega (arith, o.further, o.inside.before.inside)

pub ruleset pieces = (piece_start, piece_before, piece_end, piece_stop, piece_on, piece_less, rules)

-- ---- a word to the line's end
pub record Wording (file : Bytes) (at line i n k : ℕ) : Type 0 where
  pub same : packs k (ahead file i n) ≡ packs 1 (ahead file at line)
  pub before : Before file i n

pub word_start : {file : Bytes} {at line : ℕ} → Before file at line → Wording file at line at line 1
word_start b = record { same = refl; before = b }

module _ {file : Bytes} {at line i n k : ℕ} (g : Wording file at line i n k) where
  pub word_before : Before file i n
  word_before = g.before

  module _ {r : Option (ℕ × Place)} (s : Steps file i n r) where
    pub word_end : r ≡ None → k ≡ packs 1 (ahead file at line)
    unfolding packs
    word_end e = ap (packs k) (sym (none_left s e)) ∙ g.same

    module _ (b : ℕ) (p : Place) (e : r ≡ Some (b, p)) where
      word_further : packs (pack k b) (ahead file p.at p.line) ≡ packs 1 (ahead file at line)
      unfolding packs
      word_further = ap (packs k) (sym (took b p s e).bytes) ∙ g.same

      module _ {l : ℕ} (x : l ≡ pack k b) where
        pub word_spoilt : l ≡ 0 → 0 ≡ packs 1 (ahead file at line)
        word_spoilt z = sym (spoilt (ahead file p.at p.line)) ∙ ap (λ (y : ℕ). packs y (ahead file p.at p.line)) (sym z ∙ x) ∙ word_further

        pub word_on : Wording file at line p.at p.line l
        word_on = record { same = ap (λ (y : ℕ). packs y (ahead file p.at p.line)) x ∙ word_further; before = (took b p s e).inside.before }

      pub word_less : length file - p.at < length file - i
      word_less = let o = took b p s e in omega (arith, o.further, o.inside.before.inside)

pub ruleset wording = (word_start, word_before, word_end, word_spoilt, word_on, word_less, rules)

-- ---- two words
cut_any : (start : Bool) (n m : ℕ) (s : Bytes) → (cut_from start n s).bytes ≡ (cut_from start m s).bytes
unfolding cut_from cut_start cut_byte
cut_any start n m [] = refl
cut_any true n m (b ∷ s) = go (eqb b BLANK || eqb b TAB) (cut_any false n m s)
  where
    go : (x : Bool) → (cut_from false n s).bytes ≡ (cut_from false m s).bytes → (cut_start x n (b ∷ s) (cut_from false n s)).bytes ≡ (cut_start x m (b ∷ s) (cut_from false m s)).bytes
    go true e = e
    go false e = refl
cut_any false n m (b ∷ s) = go (eqb b LF) (eqb b CR && starts_with LF s) (cut_any true (suc n) (suc m) s) (cut_any false n m s)
  where
    go : (x y : Bool) → (cut_from true (suc n) s).bytes ≡ (cut_from true (suc m) s).bytes → (cut_from false n s).bytes ≡ (cut_from false m s).bytes → (cut_byte x y b (cut_from true (suc n) s) (cut_from false n s)).bytes ≡ (cut_byte x y b (cut_from true (suc m) s) (cut_from false m s)).bytes
    go true y p q = p
    go false true p q = q
    go false false p q = ap (λ (t : Bytes). b ∷ t) q

pub ahead_any : (file : Bytes) (at n m : ℕ) → ahead file at n ≡ ahead file at m
ahead_any file at n m = cut_any false n m (drop at file)

capital_by : (b : ℕ) → to_ascii_uppercase b ≡ upper b
unfolding upper pick
capital_by b = go (ltb b 97) refl
  where
    late : 97 ≤ b → (x : Bool) → ltb b 123 ≡ x → ltb b 97 ≡ false → to_ascii_uppercase b ≡ upper b
    late h true f e = let l : b < 123 = ltb-true b 123 f in rw (e, f, le-leb 97 b h, le-leb b 122 (omega (arith, l)))
    late h false f e = let l : 123 ≤ b = ltb-false b 123 f in rw (e, f, le-leb 97 b h, lt-leb b 122 (omega (arith, l)))

    go : (x : Bool) → ltb b 97 ≡ x → to_ascii_uppercase b ≡ upper b
    go true e = rw (e, lt-leb 97 b (ltb-true b 97 e))
    go false e = late (ltb-false b 97 e) (ltb b 123) refl e

pub capital_is : (b : ℕ) {r : ℕ} → r ≡ to_ascii_uppercase b → r ≡ upper b
capital_is b e = e ∙ capital_by b

pub ruleset capitals = (capital_is, rules)

abbrev pub alike : Bytes → Place → Place → Bool
alike file i j = equal (uppers (ahead file i.at i.line)) (uppers (ahead file j.at j.line))

pub record Comparing (file : Bytes) (a b i j : Place) : Type 0 where
  pub same : alike file i j ≡ alike file a b
  pub first : Before file i.at i.line
  pub second : Before file j.at j.line

pub comparing_start : {file : Bytes} {a b : Place} → Before file a.at a.line → Before file b.at b.line → Comparing file a b a b
comparing_start p q = record { same = refl; first = p; second = q }

both_blank : (s : Bytes) → equal [] (uppers s) ≡ is_blank s
unfolding equal uppers is_blank
both_blank [] = refl
both_blank (b ∷ s) = refl

module _ {file : Bytes} {a b i j : Place} (g : Comparing file a b i j) where
  pub comparing_first : Before file i.at i.line
  comparing_first = g.first

  pub comparing_second : Before file j.at j.line
  comparing_second = g.second

  module _ {r : Option (ℕ × Place)} (s : Steps file i.at i.line r) where
    pub comparing_end : {v : Bool} → r ≡ None → v ≡ is_blank (ahead file j.at j.line) → v ≡ alike file a b
    unfolding uppers
    comparing_end e q =
        q ∙ sym (both_blank (ahead file j.at j.line)) ∙ ap (λ (t : Bytes). equal (uppers t) (uppers (ahead file j.at j.line))) (sym (none_left s e)) ∙ g.same

    module _ (x : ℕ) (k : Place) (e : r ≡ Some (x, k)) {t : Option (ℕ × Place)} (u : Steps file j.at j.line t) where
      pub comparing_longer : t ≡ None → false ≡ alike file a b
      unfolding uppers equal
      comparing_longer f = sym (sym g.same ∙ rw ((took x k s e).bytes, none_left u f))

      module _ (y : ℕ) (l : Place) (f : t ≡ Some (y, l)) where
        heads : alike file a b ≡ (eqb (upper x) (upper y) && alike file k l)
        unfolding uppers equal
        heads = sym g.same ∙ rw ((took x k s e).bytes, (took y l u f).bytes)

        module _ {c d : ℕ} (p : c ≡ upper x) (q : d ≡ upper y) where
          pub comparing_on : c ≡ d → Comparing file a b k l
          comparing_on h =
              let z : upper x ≡ upper y = sym p ∙ h ∙ q in
              record {
                same = sym (heads ∙ ap (λ (v : Bool). v && alike file k l) (eq-eqb (upper x) (upper y) z));
                first = (took x k s e).inside.before;
                second = (took y l u f).inside.before;
              }

          pub comparing_not : (c ≡ d → ⊥) → false ≡ alike file a b
          comparing_not h = sym (heads ∙ ap (λ (v : Bool). v && alike file k l) (ne_eqb (upper x) (upper y) (λ z. h (p ∙ z ∙ sym q))))

      pub comparing_less : length file - k.at < length file - i.at
      comparing_less = let o = took x k s e in omega (arith, o.further, o.inside.before.inside)

pub ruleset comparings = (comparing_start, comparing_first, comparing_second, comparing_end, comparing_longer, comparing_on, comparing_not, comparing_less, rules)
