-- Pieces of a line are its content: a name up to its mark, a parameter's name and word, what VALUE says.
-- Assumes nothing.
use Rattle.std.specs.Prelude.{ℕ, ◌≡◌, refl, Bool, true, false, not, ◌&&◌, List, [], ◌∷◌, eqb}
use Prim.Native.String.{String}
use Rattle.std.proofs.Common.{sym, ap, ◌∙◌, arith, eqb-true, ne_eqb}
use Rattle.std.proofs.lemmas.Bool.{false≢true, eqb-false}
use Rattle.holidays.specs.Words.{Bytes, pick, ascii, upper, uppers, spells, QUOTE, COLON, SEMICOLON, EQUALS}
use Rattle.holidays.specs.Content.{Value, none, value, Content, turned, by_mark, content_from, Kind, unsaid, date, date_time, strange, kind_of, Parameter, by_equals, parameter_of, one_further, by_parameter, kind_in}
use Rattle.holidays.specs.Laws.Letters.{spelled_so, spelled_not}
use Rattle.holidays.specs.Inner.Letters.{letter, pack, packs}
use Rattle.holidays.specs.Inner.Pieces.{Pieced, is_stop, by_stop, piece}
use Rattle.holidays.specs.Inner.Parameters.{own, one_of, join_kinds, kind_by, Tail, tail_of}

-- two different bytes
other_mark : (b c d : ℕ) → eqb b c ≡ true → (c ≡ d → ⊥) → eqb b d ≡ false
other_mark b c d e n = ne_eqb b d (λ f. n (sym (eqb-true b c e) ∙ f))

no_turn : (b c : ℕ) (q : Bool) → eqb b c ≡ true → (c ≡ 34 → ⊥) → turned (eqb b QUOTE) q ≡ q
unfolding turned
no_turn b c q e n = rw (other_mark b c 34 e n)

-- ---- up to a colon or a semicolon
pub record Plain (k : ℕ) (p : Pieced) (c : Content) : Type 0 where
  pub number : p.number ≡ packs k c.name
  pub parameters : c.parameters ≡ (tail_of p.mark p.rest).parameters
  pub said : c.said ≡ (tail_of p.mark p.rest).said

tail_colon : (b : ℕ) (s : Bytes) → eqb b COLON ≡ true → tail_of b s ≡ record { parameters = []; said = value s }
unfolding tail_of pick
tail_colon b s e = rw e

tail_semicolon : (b : ℕ) (s : Bytes) → eqb b COLON ≡ false → eqb b SEMICOLON ≡ true → tail_of b s ≡ record { parameters = (content_from false s).name ∷ (content_from false s).parameters; said = (content_from false s).said }
unfolding tail_of pick
tail_semicolon b s e f = rw (e, f)

tail_none : (s : Bytes) → tail_of 0 s ≡ record { parameters = []; said = none }
unfolding tail_of pick
tail_none s = refl

plain_end : (k : ℕ) (q : Bool) → Plain k (record { number = k; mark = 0; quoted = q; rest = [] }) (record { name = []; parameters = []; said = none })
unfolding packs
plain_end k q = record { number = refl; parameters = ap (λ (t : Tail). t.parameters) (sym (tail_none [])); said = ap (λ (t : Tail). t.said) (sym (tail_none [])) }

plain_colon : (k b : ℕ) (q : Bool) (s : Bytes) → eqb b COLON ≡ true → Plain k (record { number = k; mark = b; quoted = q; rest = s }) (record { name = []; parameters = []; said = value s })
unfolding packs
plain_colon k b q s e = record { number = refl; parameters = ap (λ (t : Tail). t.parameters) (sym (tail_colon b s e)); said = ap (λ (t : Tail). t.said) (sym (tail_colon b s e)) }

plain_semicolon : (k b : ℕ) (s : Bytes) (c : Content) → eqb b COLON ≡ false → eqb b SEMICOLON ≡ true → c ≡ content_from false s → Plain k (record { number = k; mark = b; quoted = false; rest = s }) (record { name = []; parameters = c.name ∷ c.parameters; said = c.said })
unfolding packs
plain_semicolon k b s c e f g =
    let t = tail_semicolon b s e f in
    record {
      number = refl;
      parameters = ap (λ (d : Content). d.name ∷ d.parameters) g ∙ ap (λ (t : Tail). t.parameters) (sym t);
      said = ap (λ (d : Content). d.said) g ∙ ap (λ (t : Tail). t.said) (sym t);
    }

plain_byte : (k b : ℕ) (p : Pieced) (c : Content) → Plain (pack k b) p c → Plain k p (record { name = b ∷ c.name; parameters = c.parameters; said = c.said })
unfolding packs
plain_byte k b p c h = record { number = h.number; parameters = h.parameters; said = h.said }

pub plain : (q : Bool) (k : ℕ) (s : Bytes) → Plain k (piece false q k s) (content_from q s)
unfolding piece content_from is_stop by_stop by_mark pick
plain q k [] = plain_end k q
plain q k (b ∷ s) = go q (eqb b COLON) (eqb b SEMICOLON) (eqb b EQUALS) refl refl refl (plain (turned (eqb b QUOTE) q) (pack k b) s)
  where
    go : (v x y z : Bool) → eqb b COLON ≡ x → eqb b SEMICOLON ≡ y → v ≡ q → Plain (pack k b) (piece false (turned (eqb b QUOTE) q) (pack k b) s) (content_from (turned (eqb b QUOTE) q) s) → Plain k (by_stop (pick x (not v) (pick y (not v) (pick z false false))) v k b s (piece false (turned (eqb b QUOTE) q) (pack k b) s)) (by_mark (not v && x) (not v && y) b s (content_from (turned (eqb b QUOTE) q) s))
    go false true y z e f g h = plain_colon k b false s e
    go false false true z e f g h =
        plain_semicolon k b s (content_from (turned (eqb b QUOTE) q) s) e f (ap (λ (w : Bool). content_from w s) (no_turn b SEMICOLON q f (λ n. omega (arith, n)) ∙ sym g))
    go false false false true e f g h = plain_byte k b _ _ h
    go false false false false e f g h = plain_byte k b _ _ h
    go true true y z e f g h = plain_byte k b _ _ h
    go true false true z e f g h = plain_byte k b _ _ h
    go true false false true e f g h = plain_byte k b _ _ h
    go true false false false e f g h = plain_byte k b _ _ h

-- ---- a parameter's name, up to a sign of equality too
pub record Worded (p : Pieced) (c : Content) : Type 0 where
  pub word : (parameter_of c.name).word ≡ (content_from p.quoted p.rest).name
  pub parameters : c.parameters ≡ (content_from p.quoted p.rest).parameters
  pub said : c.said ≡ (content_from p.quoted p.rest).said

pub record Wordless (p : Pieced) (c : Content) : Type 0 where
  pub word : (parameter_of c.name).word ≡ []
  pub parameters : c.parameters ≡ (tail_of p.mark p.rest).parameters
  pub said : c.said ≡ (tail_of p.mark p.rest).said

pub record Keyed (k : ℕ) (p : Pieced) (c : Content) : Type 0 where
  pub number : p.number ≡ packs k (parameter_of c.name).name
  pub worded : eqb p.mark EQUALS ≡ true → Worded p c
  pub wordless : eqb p.mark EQUALS ≡ false → Wordless p c

-- a plain end is one of a name without a word
keyed_plain : (k : ℕ) (p : Pieced) (ps : List Bytes) (v : Value) → eqb p.mark EQUALS ≡ false → Plain k p (record { name = []; parameters = ps; said = v }) → Keyed k p (record { name = []; parameters = ps; said = v })
unfolding parameter_of
keyed_plain k p ps v e h =
    record {
      number = h.number;
      worded = λ t. absurd (false≢true (sym e ∙ t));
      wordless = λ t. record { word = refl; parameters = h.parameters; said = h.said };
    }

keyed_equals : (k b : ℕ) (q : Bool) (s : Bytes) (c : Content) → eqb b EQUALS ≡ true → c ≡ content_from q s → Keyed k (record { number = k; mark = b; quoted = q; rest = s }) (record { name = b ∷ c.name; parameters = c.parameters; said = c.said })
unfolding parameter_of by_equals packs
keyed_equals k b q s c e g =
    record {
      number = rw e;
      worded = λ t. record { word = rw (e, g); parameters = ap (λ (d : Content). d.parameters) g; said = ap (λ (d : Content). d.said) g };
      wordless = λ t. absurd (false≢true (sym t ∙ e));
    }

keyed_byte : (k b : ℕ) (p : Pieced) (c : Content) → eqb b EQUALS ≡ false → Keyed (pack k b) p c → Keyed k p (record { name = b ∷ c.name; parameters = c.parameters; said = c.said })
unfolding parameter_of by_equals packs
keyed_byte k b p c e h =
    record {
      number = rw e h.number;
      worded = λ t. let w = h.worded t in record { word = rw e w.word; parameters = w.parameters; said = w.said };
      wordless = λ t. let w = h.wordless t in record { word = rw e w.word; parameters = w.parameters; said = w.said };
    }

pub keyed : (q : Bool) (k : ℕ) (s : Bytes) → Keyed k (piece true q k s) (content_from q s)
unfolding piece content_from is_stop by_stop by_mark pick
keyed q k [] = keyed_plain k _ [] none refl (plain_end k q)
keyed q k (b ∷ s) = go q (eqb b COLON) (eqb b SEMICOLON) (eqb b EQUALS) refl refl refl refl (keyed (turned (eqb b QUOTE) q) (pack k b) s)
  where
    colon : eqb b COLON ≡ true → eqb b EQUALS ≡ false
    colon e = other_mark b COLON EQUALS e (λ n. omega (arith, n))

    semicolon : eqb b SEMICOLON ≡ true → eqb b EQUALS ≡ false
    semicolon e = other_mark b SEMICOLON EQUALS e (λ n. omega (arith, n))

    go : (v x y z : Bool) → eqb b COLON ≡ x → eqb b SEMICOLON ≡ y → eqb b EQUALS ≡ z → v ≡ q → Keyed (pack k b) (piece true (turned (eqb b QUOTE) q) (pack k b) s) (content_from (turned (eqb b QUOTE) q) s) → Keyed k (by_stop (pick x (not v) (pick y (not v) (pick z true false))) v k b s (piece true (turned (eqb b QUOTE) q) (pack k b) s)) (by_mark (not v && x) (not v && y) b s (content_from (turned (eqb b QUOTE) q) s))
    go false true y z e f i g h = keyed_plain k _ [] (value s) (colon e) (plain_colon k b false s e)
    go false false true z e f i g h =
        keyed_plain k _ _ _ (semicolon f) (plain_semicolon k b s (content_from (turned (eqb b QUOTE) q) s) e f (ap (λ (w : Bool). content_from w s) (no_turn b SEMICOLON q f (λ n. omega (arith, n)) ∙ sym g)))
    go false false false true e f i g h =
        keyed_equals k b false s (content_from (turned (eqb b QUOTE) q) s) i (ap (λ (w : Bool). content_from w s) (no_turn b EQUALS q i (λ n. omega (arith, n)) ∙ sym g))
    go false false false false e f i g h = keyed_byte k b _ _ i h
    go true true y z e f i g h = keyed_byte k b _ _ (colon e) h
    go true false true z e f i g h = keyed_byte k b _ _ (semicolon f) h
    go true false false true e f i g h =
        keyed_equals k b true s (content_from (turned (eqb b QUOTE) q) s) i (ap (λ (w : Bool). content_from w s) (no_turn b EQUALS q i (λ n. omega (arith, n)) ∙ sym g))
    go true false false false e f i g h = keyed_byte k b _ _ i h

-- ---- kinds
-- a word by its number
pub number_spells : (s : Bytes) (word : String) (n : ℕ) → packs 1 (ascii word) ≡ n → (n ≡ 0 → ⊥) → uppers (ascii word) ≡ ascii word → eqb (packs 1 s) n ≡ spells s word
number_spells s word n e some capitals = go (eqb (packs 1 s) n) refl
  where
    has : packs 1 (ascii word) ≡ 0 → ⊥
    has z = some (sym e ∙ z)

    go : (x : Bool) → eqb (packs 1 s) n ≡ x → x ≡ spells s word
    go true p = sym (spelled_so s word has capitals (eqb-true (packs 1 s) n p ∙ sym e))
    go false p = sym (spelled_not s word has capitals (λ q. eqb-false (packs 1 s) n p (q ∙ e)))

pub own_by : (p : Parameter) → kind_by (packs 1 p.name) (packs 1 p.word) ≡ own p
unfolding kind_by own kind_of ascii uppers upper pick packs pack letter
own_by p =
    rw (number_spells p.name "VALUE" 56668837 refl (λ z. omega (arith, z)) refl, number_spells p.word "DATE" 1181317 refl (λ z. omega (arith, z)) refl, number_spells p.word "DATE-TIME" 39638449923493 refl (λ z. omega (arith, z)) refl)

-- a word is never silent about VALUE
said_kind : (word : Bytes) (k : Kind) (x y : Bool) → spells word "DATE" ≡ x → spells word "DATE-TIME" ≡ y → one_further k word ≡ join_kinds (pick x date (pick y date_time strange)) k
unfolding one_further join_kinds one_of kind_of pick
said_kind word unsaid true y p q = rw p
said_kind word unsaid false true p q = rw (p, q)
said_kind word unsaid false false p q = rw (p, q)
said_kind word date true y p q = refl
said_kind word date false true p q = refl
said_kind word date false false p q = refl
said_kind word date_time true y p q = refl
said_kind word date_time false true p q = refl
said_kind word date_time false false p q = refl
said_kind word strange true y p q = refl
said_kind word strange false true p q = refl
said_kind word strange false false p q = refl

one_more : (k : Kind) (word : Bytes) → one_further k word ≡ join_kinds (kind_of word) k
unfolding kind_of
one_more k word = said_kind word k (spells word "DATE") (spells word "DATE-TIME") refl refl

pub kind_joins : (p : Bytes) (ps : List Bytes) → kind_in (p ∷ ps) ≡ join_kinds (own (parameter_of p)) (kind_in ps)
unfolding kind_in by_parameter own pick join_kinds
kind_joins p ps = go (spells (parameter_of p).name "VALUE")
  where
    go : (x : Bool) → pick x (one_further (kind_in ps) (parameter_of p).word) (kind_in ps) ≡ join_kinds (pick x (kind_of (parameter_of p).word) unsaid) (kind_in ps)
    go true = one_more (kind_in ps) (parameter_of p).word
    go false = refl

one_of_assoc : (a b c : Kind) → one_of (one_of a b) c ≡ one_of a (join_kinds b c)
unfolding one_of join_kinds
one_of_assoc a unsaid c = refl
one_of_assoc a date unsaid = refl
one_of_assoc a date date = refl
one_of_assoc a date date_time = refl
one_of_assoc a date strange = refl
one_of_assoc a date_time unsaid = refl
one_of_assoc a date_time date = refl
one_of_assoc a date_time date_time = refl
one_of_assoc a date_time strange = refl
one_of_assoc a strange unsaid = refl
one_of_assoc a strange date = refl
one_of_assoc a strange date_time = refl
one_of_assoc a strange strange = refl

pub join_assoc : (a b c : Kind) → join_kinds (join_kinds a b) c ≡ join_kinds a (join_kinds b c)
unfolding join_kinds one_of
join_assoc unsaid b c = refl
join_assoc date unsaid c = refl
join_assoc date date c = one_of_assoc date date c
join_assoc date date_time c = one_of_assoc date date_time c
join_assoc date strange c = one_of_assoc date strange c
join_assoc date_time unsaid c = refl
join_assoc date_time date c = one_of_assoc date_time date c
join_assoc date_time date_time c = one_of_assoc date_time date_time c
join_assoc date_time strange c = one_of_assoc date_time strange c
join_assoc strange unsaid c = refl
join_assoc strange date c = one_of_assoc strange date c
join_assoc strange date_time c = one_of_assoc strange date_time c
join_assoc strange strange c = one_of_assoc strange strange c

pub join_unsaid : (a : Kind) → join_kinds a unsaid ≡ a
unfolding join_kinds one_of
join_unsaid unsaid = refl
join_unsaid date = refl
join_unsaid date_time = refl
join_unsaid strange = refl
