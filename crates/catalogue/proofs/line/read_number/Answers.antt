use Rattle.std.proofs.Common.{◌≡◌, ℕ, ◌+◌, ◌<◌, List, length, get_or, take, drop, sym, ap, ◌∙◌, subst, inl, inr, arith, rules}
use Rattle.std.proofs.lemmas.List.{take_rest}
use Rattle.catalogue.specs.Lines.{digit, letter}
use Rattle.catalogue.specs.Reading.{Ran}
use Rattle.catalogue.proofs.Numbered.{Says, a_number, ran_as, stuck_first, stuck_mark, stuck_number, whole}
use Rattle.catalogue.proofs.line.read_number.Goals as goal
use Rattle.catalogue.proofs.line.read_number.Goals.{then-digits-eq0-via-then-digits-eq0, then-digits-eq0-via-else-digits-eq0+then-rest-eq48, then-letters-eq0-via-then-letters-eq0, then-letters-eq0-via-else-letters-eq0+then-ne-2}

pub returns-then-digits-eq0 : goal.returns-then-digits-eq0
returns-then-digits-eq0 c =
    let rest = c.args.rest.now in
    let ran : Ran rest (Says digit) 6 c.run_length-digits.result = ran_as _ _ (Says digit) _ _ (λ b r h. search rules) c.run_length-digits.ensures in
    elim c.then-digits-eq0.branch [
      | then-digits-eq0-via-then-digits-eq0 w ↦ stuck_first rest (λ h. inl (ap (λ (k : ℕ). digit (get_or rest k 0)) (sym w.if-digits-eq0.true) ∙ sym (ran.stops (omega arith) (omega arith))))
      | then-digits-eq0-via-else-digits-eq0+then-rest-eq48 w ↦ stuck_first rest (λ h. inr w.if-rest-eq48.true)
    ]

pub returns-then-ne : goal.returns-then-ne
returns-then-ne c =
    let rest = c.args.rest.now in
    let d = c.run_length-digits.result in
    let ran : Ran rest (Says digit) 6 d = ran_as _ _ (Says digit) _ _ (λ b r h. search rules) c.run_length-digits.ensures in
    let no_space : d < length rest → get_or rest d 0 ≡ 32 → ⊥ = search rules in
    stuck_number rest d ran (omega arith) c.if-rest-eq48.false no_space

pub returns-then-letters-eq0 : goal.returns-then-letters-eq0
returns-then-letters-eq0 c =
    let rest = c.args.rest.now in
    let d = c.run_length-digits.result in
    let l = c.run_length-letters.result in
    let ran : Ran rest (Says digit) 6 d = ran_as _ _ (Says digit) _ _ (λ b r h. search rules) c.run_length-digits.ensures in
    let run : Ran (drop (d + 1) rest) (Says letter) (length rest) l =
    subst (λ (t : List ℕ). Ran t (Says letter) (length rest) l) (take_rest rest (d + 1)) (ran_as _ _ (Says letter) _ _ (λ b r h. search rules) c.run_length-letters.ensures) in
    let more : d < length rest = search rules in
    let space : get_or rest d 0 ≡ 32 = search rules in
    stuck_mark rest d ran (omega arith) c.if-rest-eq48.false more space (length rest) l (omega arith) run
    (elim c.then-letters-eq0.branch [
      | then-letters-eq0-via-then-letters-eq0 w ↦ λ k h e. omega arith
      | then-letters-eq0-via-else-letters-eq0+then-ne-2 w ↦ λ k h e. search rules
    ])

pub number_of-number-requires-clause-all : goal.number_of-number-requires-clause-all
number_of-number-requires-clause-all c =
    let rest = c.args.rest.now in
    let d = c.run_length-digits.result in
    let ran : Ran rest (Says digit) 6 d = ran_as _ _ (Says digit) _ _ (λ b r h. search rules) c.run_length-digits.ensures in
    (a_number rest d ran (omega arith) c.if-rest-eq48.false).all

pub returns : goal.returns
returns c =
    let rest = c.args.rest.now in
    let d = c.run_length-digits.result in
    let l = c.run_length-letters.result in
    let ran : Ran rest (Says digit) 6 d = ran_as _ _ (Says digit) _ _ (λ b r h. search rules) c.run_length-digits.ensures in
    let run : Ran (drop (d + 1) rest) (Says letter) (length rest) l =
    subst (λ (t : List ℕ). Ran t (Says letter) (length rest) l) (take_rest rest (d + 1)) (ran_as _ _ (Says letter) _ _ (λ b r h. search rules) c.run_length-letters.ensures) in
    let more : d < length rest = search rules in
    let space : get_or rest d 0 ≡ 32 = search rules in
    let room : d + 1 + l < length rest = search rules in
    let end : get_or rest (d + 1 + l) 0 ≡ 10 = search rules in
    (take d rest, whole rest d ran (omega arith) c.if-rest-eq48.false more space (length rest) l (omega arith) run _ c.number_of-number.ensures (search rules) (omega arith) room end)
