-- A text has one reading: lines are told apart, and a text that begins with a line is not stuck in it.
use Rattle.std.proofs.Common.{◌≡◌, ℕ, suc, ◌+◌, ◌-◌, ◌<◌, ◌≤◌, Bool, true, false, ◌⊎◌, List, [], ◌∷◌, ◌++◌, length, take, drop, Some, None, Option, sym, refl, ap, ◌∙◌, subst, inl, inr, append_assoc, append-nil, arith}
use Rattle.std.proofs.lemmas.List.{length-append, nil_from_length, take-append-drop, take-append-le, take-take}
use Rattle.std.proofs.Math.Seq.{take-append-add}
use Rattle.std.proofs.lemmas.Bool.{both_ways, cases_lt, cases_order}
use Rattle.std.specs.List.{AllByRecursion}
use Rattle.automaton.specs.declared.fault.Fault.{Fault}
use Rattle.catalogue.specs.Lines.{Begins, IsLine, Lines, LotValue, Stuck, digit, letter, line, value}
use Rattle.catalogue.specs.Entries.{bad_line}
use Rattle.catalogue.specs.Listing.{Ended, Reading}

-- elements that pass a test, and then one that does not
split_once : (f : ℕ → Bool) (a b : List ℕ) (x y : ℕ) (r s : List ℕ) → AllByRecursion (λ c. f c ≡ true) a → f x ≡ false → AllByRecursion (λ c. f c ≡ true) b → f y ≡ false → a ++ x ∷ r ≡ b ++ y ∷ s → (a ≡ b) × (r ≡ s)
split_once f [] [] x y r s ha hx hb hy e = (refl, cc)
split_once f [] (c ∷ b) x y r s ha hx hb hy e = let same : x ≡ c = cc in absurd (both_ways (f c) (ap f (sym same) ∙ hx) hb.0)
split_once f (c ∷ a) [] x y r s ha hx hb hy e = let same : c ≡ y = cc in absurd (both_ways (f c) (ap f same ∙ hy) ha.0)
split_once f (c ∷ a) (d ∷ b) x y r s ha hx hb hy e =
    let same : c ≡ d = cc in
    let rest : a ++ x ∷ r ≡ b ++ y ∷ s = cc in
    let on = split_once f a b x y r s ha.1 hx hb.1 hy rest in
    let more = on.0 in
    (cc, on.1)

-- two lines at the beginning of one text are the same line
pub record Same (d e m n u v : List ℕ) : Type 0 where
  pub digits : d ≡ e
  pub letters : m ≡ n
  pub rest : u ≡ v

pub same_line : (k l d e m n u v : List ℕ) → IsLine k d m → IsLine l e n → k ++ u ≡ l ++ v → Same d e m n u v
same_line k l d e m n u v hk hl s =
    let t : line d m ++ u ≡ line e n ++ v = ap (λ (x : List ℕ). x ++ u) (sym hk.is) ∙ s ∙ ap (λ (x : List ℕ). x ++ v) hl.is in
    let b : (d ++ 32 ∷ (m ++ 10 ∷ [])) ++ u ≡ (e ++ 32 ∷ (n ++ 10 ∷ [])) ++ v = cc in
    let c : d ++ 32 ∷ ((m ++ 10 ∷ []) ++ u) ≡ e ++ 32 ∷ ((n ++ 10 ∷ []) ++ v) = sym (append_assoc d (32 ∷ (m ++ 10 ∷ [])) u) ∙ b ∙ append_assoc e (32 ∷ (n ++ 10 ∷ [])) v in
    let f = split_once digit d e 32 32 ((m ++ 10 ∷ []) ++ u) ((n ++ 10 ∷ []) ++ v) hk.number.all refl hl.number.all refl c in
    let g = split_once letter m n 10 10 u v hk.mark.all refl hl.mark.all refl (sym (append_assoc m (10 ∷ []) u) ∙ f.1 ∙ append_assoc n (10 ∷ []) v) in
    record { digits = f.0; letters = g.0; rest = g.1 }

line_long : (l d m : List ℕ) → IsLine l d m → 0 < length l
line_long l d m h = let e = ap length h.is in omega (arith, e)

same_lots : (a b : LotValue) (k l : List LotValue) → a.number ≡ b.number → a.mark ≡ b.mark → k ≡ l → a ∷ k ≡ b ∷ l
same_lots a b k l n m r =
    let parts : ◌≡◌ {A = LotValue} (record { number = a.number; mark = a.mark }) (record { number = b.number; mark = b.mark }) = cc in
    let same : a ≡ b = parts in
    cc

-- what begins with a line is not stuck
pub never_stuck : (text l d m rest : List ℕ) (i : ℕ) → text ≡ l ++ rest → IsLine l d m → Stuck text i → ⊥
never_stuck text l d m rest i e h s = go (cases_lt i (length l))
  where
    go : (i < length l) ⊎ (length l ≤ i) → ⊥
    go (inl below) =
        let n : suc i ≤ length l = omega arith in
        let long = ap length e ∙ length-append l rest in
        let t : take (suc i) text ++ drop (suc i) l ≡ l =
        ap (λ (x : List ℕ). take (suc i) x ++ drop (suc i) l) e ∙ ap (λ (x : List ℕ). x ++ drop (suc i) l) (take-append-le (suc i) l rest n) ∙ take-append-drop (suc i) l in
        s.bad (omega (arith, long)) (drop (suc i) l, d, m, subst (λ (x : List ℕ). IsLine x d m) (sym t) h)
    go (inr past) =
        let more = s.begun.0 in
        let part = take (i - length l) rest in
        let seam : length l + (i - length l) ≡ i = omega arith in
        let front : take i text ≡ l ++ part = ap (take i) e ∙ ap (λ (n : ℕ). take n (l ++ rest)) (sym seam) ∙ take-append-add l rest (i - length l) in
        let b : IsLine ((l ++ part) ++ more) s.begun.1 s.begun.2 = subst (λ (x : List ℕ). IsLine (x ++ more) s.begun.1 s.begun.2) front s.begun.3 in
        let same = same_line l ((l ++ part) ++ more) d s.begun.1 m s.begun.2 (part ++ more) [] h b (sym (append_assoc l part more) ∙ sym (append-nil ((l ++ part) ++ more))) in
        let none : part ≡ [] = nil_from_length part (omega (arith, ap length same.rest, length-append part more)) in
        s.unfinished d m (subst (λ (x : List ℕ). IsLine x d m) (sym (front ∙ ap (λ (x : List ℕ). l ++ x) none ∙ append-nil l)) h)

-- what begins a line has a shorter beginning, so a text is stuck at one place
begun_less : (text : List ℕ) (j k : ℕ) → k ≤ j → Begins (take j text) → Begins (take k text)
begun_less text j k h (more, d, m, l) =
    let t : take k text ++ (drop k (take j text) ++ more) ≡ take j text ++ more =
    sym (append_assoc (take k text) (drop k (take j text)) more)
    ∙ ap (λ (x : List ℕ). x ++ more) (ap (λ (x : List ℕ). x ++ drop k (take j text)) (sym (take-take k j text h)) ∙ take-append-drop k (take j text)) in
    (drop k (take j text) ++ more, d, m, subst (λ (x : List ℕ). IsLine x d m) (sym t) l)

stuck_once : (text : List ℕ) (i j : ℕ) → Stuck text i → Stuck text j → i ≡ j
stuck_once text i j s t = go (cases_order i j)
  where
    go : (i ≡ j) ⊎ ((i < j) ⊎ (j < i)) → i ≡ j
    go (inl e) = e
    go (inr (inl l)) = absurd (s.bad (omega (arith, t.within)) (begun_less text j (suc i) (omega arith) t.begun))
    go (inr (inr l)) = absurd (t.bad (omega (arith, s.within)) (begun_less text i (suc j) (omega arith) s.begun))

-- what is left decides how the reading ends
same_end : (left left' : List ℕ) (n n' : ℕ) (fault fault' : Option Fault) → left ≡ left' → n + length left ≡ n' + length left' → Ended left n fault → Ended left' n' fault' → fault ≡ fault'
same_end left left' n n' None None e s f g = refl
same_end left left' n n' None (Some x) e s f (i, g) = let t = ap length (sym e ∙ f) in absurd (omega (arith, g.some, t))
same_end left left' n n' (Some x) None e s (i, f) g = let t = ap length (e ∙ g) in absurd (omega (arith, f.some, t))
same_end left left' n n' (Some x) (Some y) e s (i, f) (j, g) =
    let k : i ≡ j = stuck_once left i j f.stuck (subst (λ (t : List ℕ). Stuck t j) (sym e) g.stuck) in
    let p : n + i ≡ n' + j = omega (arith, ap length e) in
    ap Some (f.fault ∙ ap bad_line p ∙ sym g.fault)

-- a line does not begin what ends the reading
no_line_left : (left l d m rest : List ℕ) (n : ℕ) (fault : Option Fault) → Ended left n fault → left ≡ l ++ rest → IsLine l d m → ⊥
no_line_left left l d m rest n None f e h = let t = ap length (sym e ∙ f) in omega (arith, line_long l d m h, t, length-append l rest)
no_line_left left l d m rest n (Some x) (i, f) e h = never_stuck left l d m rest i e h f.stuck

-- a text has one reading
pub one_reading : (lots others : List LotValue) (done left done' left' : List ℕ) (n n' : ℕ) (fault end : Option Fault) → done ++ left ≡ done' ++ left' → n + length left ≡ n' + length left'
    → Lines done lots → Ended left n fault → Lines done' others → Ended left' n' end → (lots ≡ others) × (fault ≡ end)
one_reading [] [] done left done' left' n n' fault end e s d f d' f' =
    let same : left ≡ left' = ap (λ (x : List ℕ). x ++ left) (sym d) ∙ e ∙ ap (λ (x : List ℕ). x ++ left') d' in
    (refl, same_end left left' n n' fault end same s f f')
one_reading [] (lot ∷ others) done left done' left' n n' fault end e s d f (l, ds, rest, h, t, more) f' =
    let same : left ≡ l ++ (rest ++ left') = ap (λ (x : List ℕ). x ++ left) (sym d) ∙ e ∙ ap (λ (x : List ℕ). x ++ left') t ∙ append_assoc l rest left' in
    absurd (no_line_left left l ds lot.mark (rest ++ left') n fault f same h.line)
one_reading (lot ∷ lots) [] done left done' left' n n' fault end e s (l, ds, rest, h, t, more) f d' f' =
    let same : left' ≡ l ++ (rest ++ left) = ap (λ (x : List ℕ). x ++ left') (sym d') ∙ sym e ∙ ap (λ (x : List ℕ). x ++ left) t ∙ append_assoc l rest left in
    absurd (no_line_left left' l ds lot.mark (rest ++ left) n' end f' same h.line)
one_reading (lot ∷ lots) (lot' ∷ others) done left done' left' n n' fault end e s (l, ds, rest, h, t, more) f (l', ds', rest', h', t', more') f' =
    let u : l ++ (rest ++ left) ≡ l' ++ (rest' ++ left') =
    sym (append_assoc l rest left) ∙ ap (λ (k : List ℕ). k ++ left) (sym t) ∙ e ∙ ap (λ (k : List ℕ). k ++ left') t' ∙ append_assoc l' rest' left' in
    let same = same_line l l' ds ds' lot.mark lot'.mark (rest ++ left) (rest' ++ left') h.line h'.line u in
    let on = one_reading lots others rest left rest' left' n n' fault end same.rest s more f more' f' in
    let number : lot.number ≡ lot'.number = h.number ∙ ap value same.digits ∙ sym h'.number in
    (same_lots lot lot' lots others number same.letters on.0, on.1)

pub only_reading : (text : List ℕ) (lots others : List LotValue) (fault end : Option Fault) → Reading text lots fault → Reading text others end → (lots ≡ others) × (fault ≡ end)
only_reading text lots others fault end (done, left, e, d, f) (done', left', e', d', f') =
    let s : length done + length left ≡ length done' + length left' = sym (length-append done left) ∙ ap length (sym e ∙ e') ∙ length-append done' left' in
    one_reading lots others done left done' left' (length done) (length done') fault end (sym e ∙ e') s d f d' f'
