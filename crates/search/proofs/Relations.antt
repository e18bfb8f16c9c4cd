-- The relation of two rules is right: it is read off the first words that only one of them keeps.
use Rattle.std.proofs.Common.{◌≡◌, ℕ, ◌≤◌, true, false, ◌⊎◌, ◌↔◌, List, [], length, Option, None, Some, refl, sym, subst, ap, ap₂, ◌∙◌, inl, inr, mul_comm, arith}
use Rattle.std.specs.Prelude.{option_map, unwrap_or}
use Rattle.std.proofs.Math.Path.{subst⁻¹}
use Rattle.std.proofs.lemmas.Bool.{both_ways, cases_Bool}
use Rattle.automaton.specs.Automata.{Automaton, Lawful}
use Rattle.automaton.specs.Languages.{Keeps}
use Rattle.automaton.specs.Words.{Over, walk}
use Rattle.combine.specs.Bounds.{difference_lawful}
use Rattle.combine.specs.Combined.{difference}
use Rattle.combine.specs.Laws.{FitPairs, Subtracts}
use Rattle.explore.specs.Order.{First}
use Rattle.explore.specs.Written.{over}
use Rattle.explore.proofs.Order.{first_short}
use Rattle.search.specs.declared.relation.Relation.{Relation}
use Rattle.search.specs.declared.first_kept.FirstKept.{FirstKept}
use Rattle.search.specs.FirstKept.{first_kept, found, handed}
use Rattle.search.specs.Relations.{OnlyIn, Related, Within, only, related, relation, relation_value}
use Rattle.search.proofs.FirstKept.{found_first, found_none, handed_over}

-- The first word that is in one language alone, if there is one.
pub record Parts (A B : List ℕ → Type 0) (o : Option (List ℕ)) : Type 0 where
  pub first : (w : List ℕ) → o ≡ Some w → First (OnlyIn A B) w
  pub none : o ≡ None → Within A B

says_first : (a b : Option ℕ) → (relation_value (relation a b)).only_first ≡ a
says_first None None = refl
says_first None (Some b) = refl
says_first (Some a) None = refl
says_first (Some a) (Some b) = refl

says_second : (a b : Option ℕ) → (relation_value (relation a b)).only_second ≡ b
says_second None None = refl
says_second None (Some b) = refl
says_second (Some a) None = refl
says_second (Some a) (Some b) = refl

-- What is told by the lengths of the two words, as far as there are such.
apart : (A B : List ℕ → Type 0) (o : Option (List ℕ)) (w : List ℕ) → o ≡ Some w → Parts A B o → Within A B → ⊥
apart A B o w e a h = let f = (a.first w e).0 in f.not_there (h w f.here)

module _ (A B : List ℕ → Type 0) where
  module _ (o p : Option (List ℕ)) (a : Parts A B o) (b : Parts B A p) where
    record Told (n : ℕ) : Type 0 where
      equal : (n ≡ 0) ↔ ((w : List ℕ) → A w ↔ B w)
      first_within : (n ≡ 1) ↔ (Within A B × (Within B A → ⊥))
      second_within : (n ≡ 2) ↔ (Within B A × (Within A B → ⊥))
      neither : (n ≡ 3) ↔ ((Within A B → ⊥) × (Within B A → ⊥))

    told : (i j : Option (List ℕ)) → o ≡ i → p ≡ j → Told (relation_value (relation (option_map length i) (option_map length j))).number
    told None None e f =
        let x = a.none e in
        let y = b.none f in
        record {
          equal = ((λ _. λ w. (x w, y w)), (λ _. refl));
          first_within = ((λ t. absurd (omega (arith, t))), (λ h. absurd (h.1 y)));
          second_within = ((λ t. absurd (omega (arith, t))), (λ h. absurd (h.1 x)));
          neither = ((λ t. absurd (omega (arith, t))), (λ h. absurd (h.0 x)));
        }
    told None (Some v) e f =
        let x = a.none e in
        let y = apart B A p v f b in
        record {
          equal = ((λ t. absurd (omega (arith, t))), (λ h. absurd (y (λ w. (h w).1))));
          first_within = ((λ _. (x, y)), (λ _. refl));
          second_within = ((λ t. absurd (omega (arith, t))), (λ h. absurd (y h.0)));
          neither = ((λ t. absurd (omega (arith, t))), (λ h. absurd (h.0 x)));
        }
    told (Some u) None e f =
        let x = apart A B o u e a in
        let y = b.none f in
        record {
          equal = ((λ t. absurd (omega (arith, t))), (λ h. absurd (x (λ w. (h w).0))));
          first_within = ((λ t. absurd (omega (arith, t))), (λ h. absurd (x h.0)));
          second_within = ((λ _. (y, x)), (λ _. refl));
          neither = ((λ t. absurd (omega (arith, t))), (λ h. absurd (h.1 y)));
        }
    told (Some u) (Some v) e f =
        let x = apart A B o u e a in
        let y = apart B A p v f b in
        record {
          equal = ((λ t. absurd (omega (arith, t))), (λ h. absurd (x (λ w. (h w).0))));
          first_within = ((λ t. absurd (omega (arith, t))), (λ h. absurd (x h.0)));
          second_within = ((λ t. absurd (omega (arith, t))), (λ h. absurd (y h.0)));
          neither = ((λ _. (x, y)), (λ _. refl));
        }

    pub right : Related A B (relation (option_map length o) (option_map length p)) o p
    right =
        let t = told o p refl refl in
        record {
          equal = t.equal;
          first_within = t.first_within;
          second_within = t.second_within;
          neither = t.neither;
          only_first = a.first;
          first_shortest = λ w e. first_short (OnlyIn A B) w (a.first w e);
          only_second = b.first;
          second_shortest = λ w e. first_short (OnlyIn B A) w (b.first w e);
          first_long = says_first _ _;
          second_long = says_second _ _;
        }

-- The difference of two automata that fit keeps the words that only the first keeps.
module _ (m n : Automaton) (l : Lawful m) (k : Lawful n) (fit : FitPairs m n) (s : Subtracts m n (difference m n)) where
  here : (w : List ℕ) → Keeps (difference m n) w → OnlyIn (Keeps m) (Keeps n) w
  here w h = let b = (s.keeps fit w).0 h in record { here = b.0; not_there = b.1.unkept }

  back : (w : List ℕ) → OnlyIn (Keeps m) (Keeps n) w → Keeps (difference m n) w
  back w o = (s.keeps fit w).1 (o.here, record { over = subst (λ (i : ℕ). Over i w) fit.same o.here.over; unkept = o.not_there })

  pub parts : Parts (Keeps m) (Keeps n) (only m n).word
  parts = record {
    first = λ w e. let f = found_first (difference m n) (difference_lawful m n l k) w e in (here w f.0, (λ v o. f.1 v (back v o)));
    none = λ e w h. go w h (found_none (difference m n) (difference_lawful m n l k) e w) (cases_Bool (n.kept (walk n n.start w)));
  }
    where
      go : (w : List ℕ) → Keeps m w → (Keeps (difference m n) w → ⊥) → (n.kept (walk n n.start w) ≡ true) ⊎ (n.kept (walk n n.start w) ≡ false) → Keeps n w
      go w h none (inl e) = record { over = subst (λ (i : ℕ). Over i w) fit.same h.over; kept = e }
      go w h none (inr e) = absurd (none (back w record { here = h; not_there = λ z. both_ways _ e z.kept }))

-- What two automata that fit are said to be is right, with the words that are handed over; c and d are the differences, each way round.
pub relates : (m n c d : Automaton) → Lawful m → Lawful n → FitPairs m n → Subtracts m n c → Subtracts n m d → (a b : FirstKept) (old first other second : List ℕ) (r : Relation) →
    a ≡ first_kept c → b ≡ first_kept d → first ≡ over (unwrap_or (found c).word []) old → second ≡ over (unwrap_or (found d).word []) other → r ≡ relation a.length b.length →
    Related (Keeps m) (Keeps n) r (handed (relation_value r).only_first first) (handed (relation_value r).only_second second)
relates m n c d l k fit s t a b old first other second r is_a is_b written_first written_second is =
    subst⁻¹ (λ (x : Relation). Related (Keeps m) (Keeps n) x (handed (relation_value r).only_first first) (handed (relation_value r).only_second second)) (is ∙ ap₂ relation long_a long_b)
    (subst⁻¹ (λ (o : Option (List ℕ)). Related (Keeps m) (Keeps n) (related m n) o (handed (relation_value r).only_second second)) hands_first
    (subst⁻¹ (λ (o : Option (List ℕ)). Related (Keeps m) (Keeps n) (related m n) (only m n).word o) hands_second
    (right (Keeps m) (Keeps n) (only m n).word (only n m).word (parts m n l k fit (subst (λ (z : Automaton). Subtracts m n z) s.means s))
    (parts n m k l turned (subst (λ (z : Automaton). Subtracts n m z) t.means t)))))
  where
    turned : FitPairs n m
    turned = record { same = sym fit.same; few = subst (λ (i : ℕ). i ≤ 4096) (mul_comm m.count n.count) fit.few }

    long_a : a.length ≡ option_map length (only m n).word
    long_a = ap (λ (x : FirstKept). x.length) is_a ∙ ap (λ (z : Automaton). (first_kept z).length) s.means

    long_b : b.length ≡ option_map length (only n m).word
    long_b = ap (λ (x : FirstKept). x.length) is_b ∙ ap (λ (z : Automaton). (first_kept z).length) t.means

    hands_first : handed (relation_value r).only_first first ≡ (only m n).word
    hands_first =
        ap₂ handed (ap (λ (x : Relation). (relation_value x).only_first) is ∙ says_first a.length b.length ∙ long_a)
        (written_first ∙ ap (λ (z : Automaton). over (unwrap_or (found z).word []) old) s.means)
        ∙ handed_over (only m n).word old

    hands_second : handed (relation_value r).only_second second ≡ (only n m).word
    hands_second =
        ap₂ handed (ap (λ (x : Relation). (relation_value x).only_second) is ∙ says_second a.length b.length ∙ long_b)
        (written_second ∙ ap (λ (z : Automaton). over (unwrap_or (found z).word []) other) t.means)
        ∙ handed_over (only n m).word other

-- What is said of two languages is said of any two that have the same words.
module _ (A B C D : List ℕ → Type 0) (f : (w : List ℕ) → A w ↔ C w) (g : (w : List ℕ) → B w ↔ D w) where
  within_alike : Within A B → Within C D
  within_alike h w c = (g w).0 (h w ((f w).1 c))

  within_back : Within C D → Within A B
  within_back h w a = (g w).1 (h w ((f w).0 a))

  only_alike : (w : List ℕ) → OnlyIn A B w → OnlyIn C D w
  only_alike w o = record { here = (f w).0 o.here; not_there = λ d. o.not_there ((g w).1 d) }

  only_back : (w : List ℕ) → OnlyIn C D w → OnlyIn A B w
  only_back w o = record { here = (f w).1 o.here; not_there = λ b. o.not_there ((g w).0 b) }

pub related_alike : (A B C D : List ℕ → Type 0) → ((w : List ℕ) → A w ↔ C w) → ((w : List ℕ) → B w ↔ D w) → (r : Relation) (o p : Option (List ℕ)) → Related A B r o p → Related C D r o p
related_alike A B C D f g r o p x = record {
  equal = (
    (λ e. λ w. ((λ c. (g w).0 ((x.equal.0 e w).0 ((f w).1 c))), (λ d. (f w).0 ((x.equal.0 e w).1 ((g w).1 d))))),
    (λ h. x.equal.1 (λ w. ((λ a. (g w).1 ((h w).0 ((f w).0 a))), (λ b. (f w).1 ((h w).1 ((g w).0 b)))))),
  );
  first_within = (
    (λ e. let y = x.first_within.0 e in (within_alike A B C D f g y.0, (λ h. y.1 (within_back B A D C g f h)))),
    (λ h. x.first_within.1 (within_back A B C D f g h.0, (λ b. h.1 (within_alike B A D C g f b)))),
  );
  second_within = (
    (λ e. let y = x.second_within.0 e in (within_alike B A D C g f y.0, (λ h. y.1 (within_back A B C D f g h)))),
    (λ h. x.second_within.1 (within_back B A D C g f h.0, (λ b. h.1 (within_alike A B C D f g b)))),
  );
  neither = (
    (λ e. let y = x.neither.0 e in ((λ h. y.0 (within_back A B C D f g h)), (λ h. y.1 (within_back B A D C g f h)))),
    (λ h. x.neither.1 ((λ b. h.0 (within_alike A B C D f g b)), (λ b. h.1 (within_alike B A D C g f b)))),
  );
  only_first = λ w e. let y = x.only_first w e in (only_alike A B C D f g w y.0, (λ v c. y.1 v (only_back A B C D f g v c)));
  first_shortest = λ w e v c. x.first_shortest w e v (only_back A B C D f g v c);
  only_second = λ w e. let y = x.only_second w e in (only_alike B A D C g f w y.0, (λ v c. y.1 v (only_back B A D C g f v c)));
  second_shortest = λ w e v c. x.second_shortest w e v (only_back B A D C g f v c);
  first_long = x.first_long;
  second_long = x.second_long;
}
