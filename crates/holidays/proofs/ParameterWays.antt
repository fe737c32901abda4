-- Laws of the ways through the parameters of a line: one for each way through the code.
-- Assumes nothing.
use Prim.Native.Nat.{ℕ, ◌-◌, ◌<◌}
use mathlib.Core.Path.{◌≡◌, refl, sym, ap, ◌∙◌, subst}
use mathlib.Core.Bool.{Bool, true, false}
use mathlib.Core.List.{List, [], ◌∷◌}
use native.Mathlib.Omega.{arith}
use lib.Dec.{eqb}
use lib.ListN.{length}
use borrow.Author.Rules.{rules}
use borrow.Author.Tests.{eq-eqb, ne_eqb, eqb-true, eqb-false}
use Rattle.std.specs.Prelude.{Option, None, Some}
use Rattle.std.specs.Option.{option_eq}
use Rattle.holidays.specs.declared.lines.Place.{Place}
use Rattle.holidays.specs.declared.words.Piece.{Piece}
use Rattle.holidays.specs.declared.parameters.Kind as said
use Rattle.holidays.specs.declared.parameters.Kind.TheVariants as kind-is
use Rattle.holidays.specs.declared.parameters.Parameter as code
use Rattle.holidays.specs.declared.parameters.Value as found
use Rattle.holidays.specs.Words.{Bytes, pick}
use Rattle.holidays.specs.Content.{none, value, Content, content_from, Kind, unsaid, date, date_time, strange, parameter_of, kind_in}
use Rattle.holidays.specs.Laws.Pieces.{Plain, plain, Worded, Wordless, Keyed, keyed, own_by, kind_joins, join_assoc, join_unsaid}
use Rattle.holidays.specs.Inner.Along.{ahead, Before, Inside}
use Rattle.holidays.specs.Inner.Letters.{packs}
use Rattle.holidays.specs.Inner.Pieces.{piece, mark_number, ReadsPiece}
use Rattle.holidays.specs.Inner.Digits.{kind_is}
use Rattle.holidays.specs.Inner.Parameters.{own, one_of, join_kinds, kind_by, KindsOf, Joins, Tail, tail_of, said_at, LiesInside, value_place, Behind, ReadsParameter, ReadsKinds, ReadsValue}
use Rattle.holidays.proofs.WordWays.{inside_here, inside_on}

-- ---- marks
mark_is : {m : Option ℕ} {b : ℕ} → m ≡ Some b → mark_number m ≡ b
unfolding mark_number
mark_is e = ap mark_number e

mark_not : (m : Option ℕ) (b : ℕ) → 0 < b → (m ≡ Some b → ⊥) → mark_number m ≡ b → ⊥
unfolding mark_number
mark_not None b h n e = omega arith
mark_not (Some c) b h n e = n (ap Some e)

-- two marks compared
mark_same : {m : Option ℕ} {b : ℕ} {t : Bool} → t ≡ option_eq eqb m (Some b) → t ≡ true → m ≡ Some b
mark_same {m} {b} q e = go m (sym q ∙ e)
  where
    go : (m : Option ℕ) → option_eq eqb m (Some b) ≡ true → m ≡ Some b
    go None z = absurd cc
    go (Some c) z = ap Some (eqb-true c b z)

mark_differs : {m : Option ℕ} {b : ℕ} {t : Bool} → t ≡ option_eq eqb m (Some b) → t ≡ false → m ≡ Some b → ⊥
mark_differs {m} {b} q e = go m (sym q ∙ e)
  where
    go : (m : Option ℕ) → option_eq eqb m (Some b) ≡ false → m ≡ Some b → ⊥
    go None z f = cc
    go (Some c) z f = let g : c ≡ b = cc in eqb-false c b z g

pub behind_colon : {m : Option ℕ} {p : Place} → m ≡ Some 58 → Behind m p (Some p)
unfolding value_place pick
behind_colon e = record { same = sym (rw (mark_is e)) }

pub behind_not : {m : Option ℕ} {p : Place} → (m ≡ Some 58 → ⊥) → Behind m p None
unfolding value_place pick
behind_not {m} n = record { same = sym (rw (ne_eqb (mark_number m) 58 (mark_not m 58 (omega arith) n))) }

pub ruleset behinds = (behind_colon, behind_not, rules)

-- ---- kinds
module _ (key word : ℕ) where
  pub kind_none : (key ≡ 56668837 → ⊥) → KindsOf key word kind-is.Unsaid
  unfolding kind_is kind_by pick
  kind_none n = record { same = rw (ne_eqb key 56668837 n) }

  module _ (v : key ≡ 56668837) where
    pub kind_date : word ≡ 1181317 → KindsOf key word kind-is.Date
    unfolding kind_is kind_by pick
    kind_date e = record { same = rw (eq-eqb key 56668837 v, eq-eqb word 1181317 e) }

    module _ (n : word ≡ 1181317 → ⊥) where
      pub kind_time : word ≡ 39638449923493 → KindsOf key word kind-is.DateTime
      unfolding kind_is kind_by pick
      kind_time e = record { same = rw (eq-eqb key 56668837 v, ne_eqb word 1181317 n, eq-eqb word 39638449923493 e) }

      pub kind_strange : (word ≡ 39638449923493 → ⊥) → KindsOf key word kind-is.Strange
      unfolding kind_is kind_by pick
      kind_strange e = record { same = rw (eq-eqb key 56668837 v, ne_eqb word 1181317 n, ne_eqb word 39638449923493 e) }

silent : kind_is kind-is.Unsaid ≡ unsaid
unfolding kind_is
silent = refl

pub join_first : {a : said.Kind} (b : said.Kind) → a ≡ kind-is.Unsaid → Joins a b b
unfolding join_kinds kind_is
join_first b e = record { same = sym (ap (λ (k : said.Kind). join_kinds (kind_is k) (kind_is b)) e) }

pub join_second : (a : said.Kind) {b : said.Kind} → b ≡ kind-is.Unsaid → Joins a b a
unfolding kind_is
join_second a e = record { same = sym (ap (λ (k : said.Kind). join_kinds (kind_is a) (kind_is k)) e ∙ join_unsaid (kind_is a)) }

pub join_both : (a b : said.Kind) → (a ≡ kind-is.Unsaid → ⊥) → (b ≡ kind-is.Unsaid → ⊥) → Joins a b kind-is.Strange
unfolding kind_is join_kinds one_of
join_both kind-is.Unsaid b n m = absurd (n refl)
join_both kind-is.Date kind-is.Unsaid n m = absurd (m refl)
join_both kind-is.Date kind-is.Date n m = record { same = refl }
join_both kind-is.Date kind-is.DateTime n m = record { same = refl }
join_both kind-is.Date kind-is.Strange n m = record { same = refl }
join_both kind-is.DateTime kind-is.Unsaid n m = absurd (m refl)
join_both kind-is.DateTime kind-is.Date n m = record { same = refl }
join_both kind-is.DateTime kind-is.DateTime n m = record { same = refl }
join_both kind-is.DateTime kind-is.Strange n m = record { same = refl }
join_both kind-is.Strange kind-is.Unsaid n m = absurd (m refl)
join_both kind-is.Strange kind-is.Date n m = record { same = refl }
join_both kind-is.Strange kind-is.DateTime n m = record { same = refl }
join_both kind-is.Strange kind-is.Strange n m = record { same = refl }

pub ruleset kinds_are = (kind_none, kind_date, kind_time, kind_strange, join_first, join_second, join_both, rules)

-- ---- one parameter
module _ {file : Bytes} {at line : ℕ} {k : Piece} (p : ReadsPiece file at line true false k) where
  here : Keyed 1 (piece true false 1 (ahead file at line)) (content_from false (ahead file at line))
  here = keyed false 1 (ahead file at line)

  pub piece_place : Before file k.place.at k.place.line
  piece_place = p.inside.before

  module _ {x : Bool} (y : x ≡ option_eq eqb k.mark (Some 61)) (f : x ≡ true) {w : Piece} (q : ReadsPiece file k.place.at k.place.line false k.quoted w) where
    equals : k.mark ≡ Some 61
    equals = mark_same y f

    inner : Worded (piece true false 1 (ahead file at line)) (content_from false (ahead file at line))
    inner = here.worded (eq-eqb _ 61 (sym p.mark ∙ mark_is equals))

    ahead_is : content_from (piece true false 1 (ahead file at line)).quoted (piece true false 1 (ahead file at line)).rest ≡ content_from k.quoted (ahead file k.place.at k.place.line)
    ahead_is = rw (sym p.quotes, sym p.rest)

    there : Plain 1 (piece false k.quoted 1 (ahead file k.place.at k.place.line)) (content_from k.quoted (ahead file k.place.at k.place.line))
    there = plain k.quoted 1 (ahead file k.place.at k.place.line)

    tail_is : tail_of (piece false k.quoted 1 (ahead file k.place.at k.place.line)).mark (piece false k.quoted 1 (ahead file k.place.at k.place.line)).rest ≡ tail_of (mark_number w.mark) (ahead file w.place.at w.place.line)
    tail_is = rw (sym q.mark, sym q.rest)

    pub with_word : {r : said.Kind} → KindsOf k.number w.number r → ReadsParameter file at line (record { kind = r; mark = w.mark; place = w.place })
    with_word o =
        let c : Content = content_from false (ahead file at line) in
        let n : k.number ≡ packs 1 (parameter_of c.name).name = p.number ∙ here.number in
        let m : w.number ≡ packs 1 (parameter_of c.name).word = q.number ∙ there.number ∙ ap (packs 1) (sym (inner.word ∙ ap (λ (d : Content). d.name) ahead_is)) in
        record {
          kind = o.same ∙ ap (λ (x : ℕ). kind_by x w.number) n ∙ ap (kind_by (packs 1 (parameter_of c.name).name)) m ∙ own_by (parameter_of c.name);
          parameters = inner.parameters ∙ ap (λ (d : Content). d.parameters) ahead_is ∙ there.parameters ∙ ap (λ (t : Tail). t.parameters) tail_is;
          said = inner.said ∙ ap (λ (d : Content). d.said) ahead_is ∙ there.said ∙ ap (λ (t : Tail). t.said) tail_is;
          inside = inside_on p.inside q.inside;
          further = λ c z. omega (arith, p.inside.later, q.further c z);
        }

  module _ {x : Bool} (y : x ≡ option_eq eqb k.mark (Some 61)) (f : x ≡ false) where
    no_equals : k.mark ≡ Some 61 → ⊥
    no_equals = mark_differs y f

    bare : Wordless (piece true false 1 (ahead file at line)) (content_from false (ahead file at line))
    bare = here.wordless (ne_eqb _ 61 (λ z. mark_not k.mark 61 (omega arith) no_equals (p.mark ∙ z)))

    tail_here : tail_of (piece true false 1 (ahead file at line)).mark (piece true false 1 (ahead file at line)).rest ≡ tail_of (mark_number k.mark) (ahead file k.place.at k.place.line)
    tail_here = rw (sym p.mark, sym p.rest)

    pub without_word : {r : said.Kind} → KindsOf k.number 1 r → ReadsParameter file at line (record { kind = r; mark = k.mark; place = k.place })
    unfolding packs
    without_word o =
        let c : Content = content_from false (ahead file at line) in
        let n : k.number ≡ packs 1 (parameter_of c.name).name = p.number ∙ here.number in
        record {
          kind = o.same ∙ ap (λ (x : ℕ). kind_by x 1) n ∙ ap (λ (s : Bytes). kind_by (packs 1 (parameter_of c.name).name) (packs 1 s)) (sym bare.word) ∙ own_by (parameter_of c.name);
          parameters = bare.parameters ∙ ap (λ (t : Tail). t.parameters) tail_here;
          said = bare.said ∙ ap (λ (t : Tail). t.said) tail_here;
          inside = p.inside;
          further = p.further;
        }

pub ruleset parameters_are = (piece_place, with_word, without_word, rules)

-- ---- all of them
abbrev kinds_of : Content → Kind
kinds_of c = kind_in (c.name ∷ c.parameters)

pub record Kinding (file : Bytes) (at line i n : ℕ) (kind : said.Kind) : Type 0 where
  pub kinds : join_kinds (kind_is kind) (kinds_of (content_from false (ahead file i n))) ≡ kinds_of (content_from false (ahead file at line))
  pub said : (content_from false (ahead file i n)).said ≡ (content_from false (ahead file at line)).said
  pub inside : Inside file at line i n

pub kinding_start : {file : Bytes} {at line : ℕ} → Before file at line → Kinding file at line at line kind-is.Unsaid
unfolding join_kinds
kinding_start {file} {at} {line} b =
    record {
      kinds = ap (λ (k : Kind). join_kinds k (kinds_of (content_from false (ahead file at line)))) silent;
      said = refl;
      inside = inside_here b;
    }

module _ {file : Bytes} {at line i n : ℕ} {kind : said.Kind} (g : Kinding file at line i n kind) where
  pub kinding_before : Before file i n
  kinding_before = g.inside.before

  module _ {p : code.Parameter} (r : ReadsParameter file i n p) where
    module _ {k : said.Kind} (j : Joins kind p.kind k) where
      -- one parameter taken in
      further_on : (ps : List Bytes) → (content_from false (ahead file i n)).parameters ≡ ps → join_kinds (kind_is k) (kind_in ps) ≡ kinds_of (content_from false (ahead file at line))
      further_on ps e =
          let c : Content = content_from false (ahead file i n) in
          ap (λ (x : Kind). join_kinds x (kind_in ps)) (j.same ∙ ap (join_kinds (kind_is kind)) r.kind)
          ∙ join_assoc (kind_is kind) (own (parameter_of c.name)) (kind_in ps)
          ∙ ap (join_kinds (kind_is kind)) (sym (kind_joins c.name ps) ∙ ap (λ (qs : List Bytes). kind_in (c.name ∷ qs)) (sym e))
          ∙ g.kinds

      pub kinding_on : {x : Bool} → x ≡ option_eq eqb p.mark (Some 59) → x ≡ true → Kinding file at line p.place.at p.place.line k
      unfolding tail_of pick
      kinding_on y f =
          let e : p.mark ≡ Some 59 = mark_same y f in
          let t : tail_of (mark_number p.mark) (ahead file p.place.at p.place.line) ≡ record { parameters = (content_from false (ahead file p.place.at p.place.line)).name ∷ (content_from false (ahead file p.place.at p.place.line)).parameters; said = (content_from false (ahead file p.place.at p.place.line)).said } = rw (mark_is e) in
          record {
            kinds = further_on _ (r.parameters ∙ ap (λ (x : Tail). x.parameters) t);
            said = sym (r.said ∙ ap (λ (x : Tail). x.said) t) ∙ g.said;
            inside = inside_on g.inside r.inside;
          }

      pub kinding_done : {x : Bool} → x ≡ option_eq eqb p.mark (Some 59) → x ≡ false → {o : Option Place} → Behind p.mark p.place o → ReadsKinds file at line (record { kind = k; place = o })
      unfolding tail_of pick said_at kind_in value_place LiesInside
      kinding_done y z v = subst (λ (x : Option Place). ReadsKinds file at line (record { kind = k; place = x })) (sym v.same) (go (eqb (mark_number p.mark) 58) refl)
        where
          go : (x : Bool) → eqb (mark_number p.mark) 58 ≡ x → ReadsKinds file at line (record { kind = k; place = pick x (Some p.place) None })
          go true f =
              let t : tail_of (mark_number p.mark) (ahead file p.place.at p.place.line) ≡ record { parameters = []; said = value (ahead file p.place.at p.place.line) } = rw f in
              record {
                kind = sym (join_unsaid (kind_is k)) ∙ further_on [] (r.parameters ∙ ap (λ (x : Tail). x.parameters) t);
                said = sym g.said ∙ r.said ∙ ap (λ (x : Tail). x.said) t;
                inside = inside_on g.inside r.inside;
              }
          go false f =
              let t : tail_of (mark_number p.mark) (ahead file p.place.at p.place.line) ≡ record { parameters = []; said = none } = rw (f, ne_eqb (mark_number p.mark) 59 (mark_not p.mark 59 (omega arith) (mark_differs y z))) in
              record {
                kind = sym (join_unsaid (kind_is k)) ∙ further_on [] (r.parameters ∙ ap (λ (x : Tail). x.parameters) t);
                said = sym g.said ∙ r.said ∙ ap (λ (x : Tail). x.said) t;
                inside = tt;
              }

    pub kinding_less : {x : Bool} → x ≡ option_eq eqb p.mark (Some 59) → x ≡ true → length file - p.place.at < length file - i
    kinding_less y f = omega (arith, r.further 59 (mark_same y f), r.inside.before.inside)

pub ruleset kindings = (kinding_start, kinding_before, kinding_on, kinding_done, kinding_less, rules)

-- ---- behind a name
module _ {file : Bytes} {p : Place} (mark : Option ℕ) {t : Bool} (q : t ≡ option_eq eqb mark (Some 59)) where
  pub value_kinds : {r : found.Value} → t ≡ true → ReadsKinds file p.at p.line r → ReadsValue file p.at p.line (mark_number mark) r
  unfolding tail_of pick
  value_kinds e k = let m : mark_number mark ≡ 59 = mark_is (mark_same q e) in record { kind = k.kind ∙ rw m; said = rw m k.said; inside = k.inside }

  pub value_here : Before file p.at p.line → t ≡ false → {o : Option Place} → Behind mark p o → ReadsValue file p.at p.line (mark_number mark) (record { kind = kind-is.Unsaid; place = o })
  unfolding tail_of pick said_at kind_in value_place LiesInside
  value_here b n v = subst (λ (x : Option Place). ReadsValue file p.at p.line (mark_number mark) (record { kind = kind-is.Unsaid; place = x })) (sym v.same) (go (eqb (mark_number mark) 58) refl)
    where
      go : (x : Bool) → eqb (mark_number mark) 58 ≡ x → ReadsValue file p.at p.line (mark_number mark) (record { kind = kind-is.Unsaid; place = pick x (Some p) None })
      go true e =
          let t : tail_of (mark_number mark) (ahead file p.at p.line) ≡ record { parameters = []; said = value (ahead file p.at p.line) } = rw e in
          record { kind = silent ∙ sym (ap (λ (x : Tail). kind_in x.parameters) t); said = ap (λ (x : Tail). x.said) t; inside = inside_here b }
      go false e =
          let t : tail_of (mark_number mark) (ahead file p.at p.line) ≡ record { parameters = []; said = none } = rw (e, ne_eqb (mark_number mark) 59 (mark_not mark 59 (omega arith) (mark_differs q n))) in
          record { kind = silent ∙ sym (ap (λ (x : Tail). kind_in x.parameters) t); said = ap (λ (x : Tail). x.said) t; inside = tt }

pub ruleset values_are = (value_kinds, value_here, rules)
