-- What each call from C promises.
--   text_answer      the answer to a sheet of this form and a text: the first fault of the sheet, and otherwise whether its automaton keeps the text
--   TextJudged       a text is judged by the rule on a sheet: the answer is that one, but for want of memory, which comes only for a sheet without a fault; yes says that the
--                    automaton that is drawn on the sheet accepts the text's word in the textbook's sense, and no that it does not, where every letter is there; and
--                    with a sheet without a fault a letter is refused exactly where the first one stands that is not there
--   Kept             the call that judges a text: it answers, refuses and writes what such a judgement says
--   Settle           what settling two sheets promises
--   SettleCall       the call that settles: it answers, refuses and writes what such a settlement says
--   Relate           what relating two sheets promises
--   RelateCall       the call that relates: it answers, refuses and writes what such a relation says
use Rattle.std.specs.Prelude.{◌≡◌, ℕ, ◌⊎◌, ◌↔◌, Bool, true, false, List, [], length, None, Ok, Err, Result, IfErr, IfOk, IsOk, unwrap_or}
use Rattle.automaton.specs.declared.fault.Fault.{Fault}
use Rattle.automaton.specs.Answers.{no_letter}
use Rattle.automaton.specs.Diagrams.{Accepts}
use Rattle.automaton.specs.Faults.{and_then}
use Rattle.automaton.specs.Languages.{Unknown, keeps_answer}
use Rattle.automaton.specs.Words.{Over, of_text}
use Rattle.capi.specs.declared.answers.RelationNumbers.{RelationNumbers}
use Rattle.capi.specs.declared.answers.SettlementNumbers.{SettlementNumbers}
use Rattle.capi.specs.declared.refusal.Refusal.{Refusal}
use Rattle.capi.specs.Numbers.{kept_number, put, relation_numbers, settlement_numbers}
use Rattle.capi.specs.Statuses.{refusal_of}
use Rattle.explore.specs.Written.{if_answered, over}
use Rattle.search.specs.declared.relation.Relation.{Relation}
use Rattle.search.specs.Relations.{only}
use Rattle.settlement.specs.declared.settlement.Settlement.{Settlement}
use Rattle.settlement.specs.Relations.{SheetsRelated, Unrelated, relation_checked}
use Rattle.settlement.specs.Settlements.{Settled, Unsettled, room_checked, search_of}
use Rattle.sheet.specs.Forms.{Form, answered, out_of_memory}
use Rattle.sheet.specs.Layout.{tabled}

abbrev pub text_answer : Form → List ℕ → List ℕ → Result Bool Fault
text_answer form sheet text = and_then (answered (form.fault sheet)) (λ _. keeps_answer (form.means sheet) (of_text text))

pub record TextJudged (form : Form) (sheet text : List ℕ) (r : Result Bool Fault) : Type 0 where
  pub answer : (r ≡ text_answer form sheet text) ⊎ ((r ≡ Err out_of_memory) × (form.fault sheet ≡ None))
  pub kept : r ≡ Ok true → form.WellFormed sheet × Accepts (form.drawn sheet) (of_text text)
  pub dropped : r ≡ Ok false → form.WellFormed sheet × Over (form.means sheet).letters (of_text text) × (Accepts (form.drawn sheet) (of_text text) → ⊥)
  pub unknown : form.fault sheet ≡ None → (i : ℕ) → r ≡ Err (no_letter i) → Unknown (form.means sheet) (of_text text) i

pub record Kept (form : Form) (sheet text : List ℕ) (kept : ℕ) (status : ℕ) (kept_after : ℕ) (refusal : Refusal) : Type 0 where
  pub answer : Result Bool Fault
  pub judged : TextJudged form sheet text answer
  pub is_answered : (status ≡ 0) ↔ IsOk answer
  pub is_status : status ≡ (refusal_of answer).status
  pub is_refusal : refusal ≡ refusal_of answer
  pub number : kept_after ≡ put kept_number answer kept

pub record Settle (first second word : List ℕ) (r : Result Settlement Fault) (word_after : List ℕ) : Type 0 where
  pub accepted : IfOk r (λ s. room_checked first second (length word) ≡ Ok tt)
  pub settled : IfOk r (λ s. Settled first second s word_after)
  pub refused : IfErr r (λ f. Unsettled first second (length word) f)
  pub written : word_after ≡ if_answered r (over (unwrap_or (search_of (tabled first) (tabled second)).word []) word) word

pub record SettleCall (first second word : List ℕ) (numbers : SettlementNumbers) (status : ℕ) (word_after : List ℕ) (numbers_after : SettlementNumbers) (refusal : Refusal) : Type 0 where
  pub answer : Result Settlement Fault
  pub settle : Settle first second word answer word_after
  pub is_answered : (status ≡ 0) ↔ IsOk answer
  pub is_status : status ≡ (refusal_of answer).status
  pub is_refusal : refusal ≡ refusal_of answer
  pub is_numbers : numbers_after ≡ put settlement_numbers answer numbers

pub record Relate (first second first_word second_word : List ℕ) (r : Result Relation Fault) (first_after second_after : List ℕ) : Type 0 where
  pub accepted : IfOk r (λ v. relation_checked first second (length first_word) (length second_word) ≡ Ok v)
  pub related : IfOk r (λ v. SheetsRelated first second v first_after second_after)
  pub refused : IfErr r (λ f. Unrelated first second (length first_word) (length second_word) f)
  pub first_written : first_after ≡ if_answered r (over (unwrap_or (only (tabled first) (tabled second)).word []) first_word) first_word
  pub second_written : second_after ≡ if_answered r (over (unwrap_or (only (tabled second) (tabled first)).word []) second_word) second_word

pub record RelateCall (first second first_word second_word : List ℕ) (numbers : RelationNumbers) (status : ℕ) (first_after second_after : List ℕ) (numbers_after : RelationNumbers) (refusal : Refusal) : Type 0 where
  pub answer : Result Relation Fault
  pub relate : Relate first second first_word second_word answer first_after second_after
  pub is_answered : (status ≡ 0) ↔ IsOk answer
  pub is_status : status ≡ (refusal_of answer).status
  pub is_refusal : refusal ≡ refusal_of answer
  pub is_numbers : numbers_after ≡ put relation_numbers answer numbers
