-- Laws of taking a DJ report: the length of a radio report that is accepted, and that it sets the link, whatever else the port holds.
use Rattle.std.specs.Prelude.{◌<◌, ◌≡◌, refl, Bool, true, false, cond, not, ◌&&◌, List, ℕ, ltb, Some, None, Ok, Err}
use Rattle.std.specs.Option.{unwrap_or}
use Rattle.std.specs.Result.{result_ok}
use Rattle.std.proofs.lemmas.Option.{cond_some}
use Rattle.std.proofs.Common.{sym, ◌∙◌, ap, arith}
use borrow.Author.Tests.{ltb-true, lt-ltb}
use Rattle.report.proofs.ChoicesLaws.{both}
use Rattle.report.specs.Sizes.{bit, dj_start}
use Rattle.report.specs.Radio.{radio_types, payload_length}
use Rattle.report.specs.Reading.{Report}
use Rattle.report.specs.Refusals.{not_paired, not_declared, dirty_padding}
use Rattle.port.specs.declared.Port.{Port}
use Rattle.port.specs.Records.{with_link}
use Rattle.port.specs.Answers.{Result, radio}
use Rattle.dj.specs.Padding.{is_clean}
use Rattle.dj.specs.DjTaking.{is_declared, radio_answer, radio_rule, take_dj}
use Rattle.dj.specs.DjContracts.{is_accepted, accepted_length, length_accepted, acceptance}

-- the length alone, where the report is accepted
pub length_checked : (is_paired : Bool) (reports kind size : ℕ) (bytes : List ℕ) → result_ok (acceptance is_paired reports kind size bytes) ≡ length_accepted is_paired reports kind size bytes
unfolding acceptance
length_checked is_paired reports kind size bytes = go is_paired (is_declared reports kind) (is_clean kind size bytes)
  where
    go : (a b c : Bool) → result_ok (cond (not a) (Err not_paired) (cond (not b) (Err not_declared) (cond (not c) (Err dirty_padding) (Ok (payload_length kind size))))) ≡ cond (a && (b && c)) (Some (payload_length kind size)) None
    go false b c = refl
    go true false c = refl
    go true true false = refl
    go true true true = refl

-- the number that the rules have for it: 0 where the report is not accepted
pub length_number : (is_paired : Bool) (reports kind size : ℕ) (bytes : List ℕ) → unwrap_or (length_accepted is_paired reports kind size bytes) 0 ≡ accepted_length is_paired reports kind size bytes
length_number is_paired reports kind size bytes = go (is_accepted is_paired reports kind size bytes)
  where
    go : (b : Bool) → unwrap_or (cond b (Some (payload_length kind size)) None) 0 ≡ cond b (payload_length kind size) 0
    go true = refl
    go false = refl

module _ (port : Port) (r : Report) (bytes : List ℕ) where
  abbrev is_taken : Bool
  is_taken = is_accepted port.paired port.reports r.byte2 r.size bytes

  accepted_rule : is_taken ≡ true → take_dj port r bytes ≡ record { answer = radio_answer r.byte2 r.size; port = with_link port true }
  unfolding take_dj radio_rule
  accepted_rule e =
      let h = both port.paired (is_declared port.reports r.byte2 && is_clean r.byte2 r.size bytes) e in
      let q = both (is_declared port.reports r.byte2) (is_clean r.byte2 r.size bytes) h.1 in
      let k = both (ltb r.byte2 radio_types) (bit r.byte2 port.reports) q.0 in
      let small : r.byte2 < radio_types = ltb-true r.byte2 radio_types k.0 in
      simp (lt-ltb r.byte2 0x40 (omega arith), h.0, k.0, k.1, q.1)

  -- a length other than 0 is that of an accepted report's payload
  pub take_accepted : (payload : ℕ) → payload ≡ accepted_length port.paired port.reports r.byte2 r.size bytes → ¬ (payload ≡ 0) → ◌≡◌ {A = Result} (record { answer = radio r.byte2 dj_start payload; port = with_link port true }) (take_dj port r bytes)
  take_accepted payload e some = go is_taken refl e
    where
      go : (b : Bool) → is_taken ≡ b → payload ≡ cond b (payload_length r.byte2 r.size) 0 → ◌≡◌ {A = Result} (record { answer = radio r.byte2 dj_start payload; port = with_link port true }) (take_dj port r bytes)
      go true q z = ap answered z ∙ sym (accepted_rule q)
        where
          answered : ℕ → Result
          answered n = record { answer = radio r.byte2 dj_start n; port = with_link port true }
      go false q z = absurd (some z)

  -- so is any length that the program gives
  pub take_accepted_length : (payload : ℕ) → Some payload ≡ length_accepted port.paired port.reports r.byte2 r.size bytes → ◌≡◌ {A = Result} (record { answer = radio r.byte2 dj_start payload; port = with_link port true }) (take_dj port r bytes)
  take_accepted_length payload e =
      let h = cond_some is_taken (payload_length r.byte2 r.size) payload (sym e) in
      ap (λ (n : ℕ). record { answer = radio r.byte2 dj_start n; port = with_link port true }) (sym h.1) ∙ sym (accepted_rule h.0)
