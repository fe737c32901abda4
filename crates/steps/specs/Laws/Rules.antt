-- Rules by number: a number names one rule, and what a `match` with several rules to an arm tells.
-- Assumes nothing.
use Rattle.std.specs.Prelude.{ℕ, zero, suc, ◌<◌, ◌≡◌, Bool, true, false, not, ◌&&◌, eqb, length, get_or}
use Rattle.std.proofs.Math.Path.{refl}
use Rattle.std.proofs.Common.{sym, ap, ◌∙◌, inl, inr, arith, eqb-true}
use Rattle.std.proofs.lemmas.Bool.{false≢true, not-true}
use mathlib.Core.List.{List, [], ◌∷◌}
use types.Run.{OneOf}
use Rattle.refusal.specs.Laws.Answers.{both}
use Rattle.steps.specs.declared.Rule.{Rule}
use Rattle.steps.specs.declared.Rule.TheVariants.{Zero, Backward, Forward, Twentieth, TwentiethIMM, ThirdWednesday, ThirdWednesdayInclusive, OldCDS, CDS, CDS2015}
use Rattle.steps.specs.Rules.{rules, rule_number, one_of}

-- the rule with a number; Zero stands for numbers that name none
abbrev pub rule_at : ℕ → Rule
rule_at n = get_or rules n Zero

placed : (rule : Rule) → (rule_number rule < length rules) × (rule_at (rule_number rule) ≡ rule)
unfolding rules rule_number
placed Zero = (omega arith, refl)
placed Backward = (omega arith, refl)
placed Forward = (omega arith, refl)
placed Twentieth = (omega arith, refl)
placed TwentiethIMM = (omega arith, refl)
placed ThirdWednesday = (omega arith, refl)
placed ThirdWednesdayInclusive = (omega arith, refl)
placed OldCDS = (omega arith, refl)
placed CDS = (omega arith, refl)
placed CDS2015 = (omega arith, refl)

pub rule_at_lem : (rule : Rule) → rule_at (rule_number rule) ≡ rule
rule_at_lem rule = (placed rule).1

same_or : (a : Bool) (rule member : Rule) → eqb (rule_number rule) (rule_number member) ≡ a → one_of rule (member ∷ []) ≡ true → a ≡ true
unfolding one_of
same_or true rule member e h = refl
same_or false rule member e h = absurd (false≢true (rw e at h))

-- a group of one
pub only : (rule member : Rule) → one_of rule (member ∷ []) ≡ true → rule ≡ member
only rule member h =
    let e : rule_number rule ≡ rule_number member = eqb-true _ _ (same_or (eqb (rule_number rule) (rule_number member)) rule member refl h) in
    sym (rule_at_lem rule) ∙ ap rule_at e ∙ rule_at_lem member

-- ---- an arm of a `match`, whose keys are the tags of its rules: the rules of which a test says the same
unfoldable pub agree : Bool → Bool → Bool
agree true b = b
agree false b = not b

agreed : (a b : Bool) → agree a b ≡ true → a ≡ b
unfolding agree
agreed true b e = sym e
agreed false b e = sym (not-true b e)

unfoldable pub keep : Bool → ℕ → List ℕ → List ℕ
keep true n ns = n ∷ ns
keep false n ns = ns

unfoldable pub keys_of : (Rule → Bool) → Bool → List Rule → List ℕ
keys_of f b [] = []
keys_of f b (r ∷ rs) = keep (agree b (f r)) (rule_number r) (keys_of f b rs)

unfoldable pub each_key : (ℕ → Bool) → List ℕ → Bool
each_key p [] = true
each_key p (k ∷ ks) = p k && each_key p ks

each_key_lem : (p : ℕ → Bool) (ks : List ℕ) (x : ℕ) → each_key p ks ≡ true → OneOf ks x → p x ≡ true
unfolding each_key
each_key_lem p [] x t h = absurd h
each_key_lem p (k ∷ []) x t e = rw e (both (p k) _ t).0
each_key_lem p (k ∷ j ∷ ks) x t (inl e) = rw e (both (p k) _ t).0
each_key_lem p (k ∷ j ∷ ks) x t (inr h) = each_key_lem p (j ∷ ks) x (both (p k) _ t).1 h

kept : (p : ℕ → Bool) (c : Bool) (n : ℕ) (ns : List ℕ) → (c ≡ true → p n ≡ true) → each_key p ns ≡ true → each_key p (keep c n ns) ≡ true
unfolding each_key keep
kept p true n ns h t = rw (h refl) t
kept p false n ns h t = t

module _ (f : Rule → Bool) (b : Bool) where
  abbrev says : ℕ → Bool
  says k = agree b (f (rule_at k))

  keys_agree : (rs : List Rule) → each_key says (keys_of f b rs) ≡ true
  unfolding keys_of each_key
  keys_agree [] = refl
  keys_agree (r ∷ rs) =
      kept says (agree b (f r)) (rule_number r) (keys_of f b rs) (λ e. rw (rule_at_lem r) e) (keys_agree rs)

-- the tags number the rules as document 01 does
unfoldable pub tags_are : (Rule → ℕ) → List Rule → Bool
tags_are tag [] = true
tags_are tag (r ∷ rs) = eqb (tag r) (rule_number r) && tags_are tag rs

tag_at : (tag : Rule → ℕ) (rs : List Rule) (n : ℕ) → tags_are tag rs ≡ true → n < length rs → tag (get_or rs n Zero) ≡ rule_number (get_or rs n Zero)
unfolding tags_are
tag_at tag [] n t h = absurd (omega (arith, h))
tag_at tag (r ∷ rs) zero t h = eqb-true _ _ (both (eqb (tag r) (rule_number r)) _ t).0
tag_at tag (r ∷ rs) (suc n) t h = tag_at tag rs n (both (eqb (tag r) (rule_number r)) _ t).1 (omega (arith, h))

pub told : (tag : Rule → ℕ) → tags_are tag rules ≡ true → (f : Rule → Bool) (b : Bool) (rule : Rule) → OneOf (keys_of f b rules) (tag rule) → b ≡ f rule
told tag tags f b rule h =
    let e : tag rule ≡ rule_number rule = rw (rule_at_lem rule) at (tag_at tag rules (rule_number rule) tags (placed rule).0) in
    agreed b (f rule) (rw (e, rule_at_lem rule) at (each_key_lem (says f b) (keys_of f b rules) (tag rule) (keys_agree f b rules) h))
