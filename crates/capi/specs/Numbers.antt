-- What calls answer, as numbers, for C.
--   settlement_numbers   the numbers of a settlement: where there is no word, its length and its side are 0
--   relation_numbers     the numbers of a relation: where there is no word, its length is 0
--   put                  what stands where an answer is written: the new one if the call was answered, and otherwise the old one
--   kept_number          1 for kept, 0 for dropped
use Rattle.std.specs.Prelude.{ℕ, Bool, true, false, Result, Ok, Err, option_map, unwrap_or}
use Rattle.automaton.specs.declared.fault.Fault.{Fault}
use Rattle.automaton.specs.Faults.{side_number}
use Rattle.capi.specs.declared.answers.RelationNumbers.{RelationNumbers}
use Rattle.capi.specs.declared.answers.SettlementNumbers.{SettlementNumbers}
use Rattle.search.specs.declared.relation.Relation.{Relation}
use Rattle.search.specs.Relations.{relation_value}
use Rattle.settlement.specs.declared.settlement.Settlement.{Settlement}
use Rattle.settlement.specs.Settlements.{joins_of, keeper_of, length_of, settlement_value}

abbrev pub settlement_numbers : Settlement → SettlementNumbers
settlement_numbers s = record { joins = joins_of s; length = unwrap_or (length_of s) 0; number = (settlement_value s).number; kept_by = unwrap_or (option_map side_number (keeper_of s)) 0 }

abbrev pub relation_numbers : Relation → RelationNumbers
relation_numbers r = record { only_first = unwrap_or (relation_value r).only_first 0; only_second = unwrap_or (relation_value r).only_second 0; number = (relation_value r).number }

abbrev pub put : {S T : Type 0} → (S → T) → Result S Fault → T → T
put numbers (Ok x) old = numbers x
put numbers (Err f) old = old

abbrev pub kept_number : Bool → ℕ
kept_number true = 1
kept_number false = 0
