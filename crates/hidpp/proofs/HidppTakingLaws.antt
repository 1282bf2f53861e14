-- Laws of taking a HID++ report: the parts that a program makes one by one are those of the rules.
use Rattle.std.specs.Prelude.{ℕ, ◌<◌, ◌≤◌, ◌≡◌, refl, true, false, ◌&&◌, leb, eqb, Ok}
use Rattle.std.proofs.Common.{◌∙◌, arith}
use borrow.Author.Tests.{lt-ltb, le-ltb, le-leb, lt-leb}
use Rattle.report.proofs.ChoicesLaws.{by_case}
use Rattle.report.specs.Ports.{in_range}
use Rattle.report.specs.Sizes.{software_id, is_feature}
use Rattle.port.specs.declared.Port.{Port}
use Rattle.port.specs.declared.answer.About as program
use Rattle.port.specs.declared.answer.ErrorKind.{ErrorKind}
use Rattle.port.specs.declared.answer.ErrorKind.TheVariants.{Hidpp1, Hidpp2}
use Rattle.port.specs.declared.answer.Taken.TheVariants.{Failed}
use Rattle.port.specs.Records.{place_count}
use Rattle.port.proofs.WaitingLaws.{is_found_law}
use Rattle.port.specs.Waiting.{waiting_at, is_found, ended_at}
use Rattle.port.specs.Answers.{Answer, Result, About, reply, stray, plain, event, failed}
use Rattle.port.specs.PortContracts.{about_of, kind_number, result_of}
use Rattle.matching.specs.declared.Message.{Message}
use Rattle.matching.specs.Matching.{answered_at, ping_waits}
use Rattle.matching.proofs.MatchingLaws.{only_pings}
use Rattle.hidpp.specs.HidppRecords.{after_error}
use Rattle.hidpp.specs.HidppTaking.{about, carried, unchanged, is_error, named2, named3, code, error_fits, kind_of, error_rule, reply_rule, is_major1, feature_rule, unasked_rule, unanswered_rule, take_hidpp}

-- an answer by what it carries, and the port after it
pub carry : (answer : About → Answer) {x y : About} {p q : Port} → x ≡ y → p ≡ q → ◌≡◌ {A = Result} (record { answer = answer x; port = p }) (record { answer = answer y; port = q })
carry answer e f = λ i. record { answer = answer (e i); port = f i }

-- a kind by its own number
pub kind_itself : (kind : ErrorKind) → kind_number kind ≡ kind_of (kind_number kind)
kind_itself Hidpp1 = refl
kind_itself Hidpp2 = refl

pub error_ends : (p : Port) (m : Message) {place : ℕ} (a : program.About) (kind : ErrorKind) {ended next : Port} → error_fits m ≡ true → place ≡ waiting_at p (named2 m) (named3 m) → place < place_count → about_of a ≡ about m (named2 m) (named3 m) → kind_number kind ≡ kind_of m.byte2.0 → ended ≡ ended_at p place → next ≡ after_error ended m.byte2.0 (named2 m) (named3 m) (code m) → result_of (record { answer = Ok (Failed a (code m) kind); next = next }) ≡ error_rule p m
unfolding error_rule
error_ends p m a kind fits at found carries k e n =
    simp (fits, is_found_law at found) (simp (n, e, at) (λ i. result (carries i) (k i)))
  where
    result : About → ℕ → Result
    result x number = record { answer = failed x (code m) number; port = after_error (ended_at p (waiting_at p (named2 m) (named3 m))) m.byte2.0 (named2 m) (named3 m) (code m) }

-- where none is answered, only a ping can wait with the report's bytes 2 and 3
module _ (p : Port) (m : Message) (none : is_found (answered_at p m) ≡ false) where
  pub ping_stray : ping_waits p m ≡ true → unchanged (carried stray m) p ≡ unanswered_rule p m
  unfolding unanswered_rule
  ping_stray e = simp (only_pings p m none ∙ e)

  pub rules_go_on : ping_waits p m ≡ false → unasked_rule p m ≡ unanswered_rule p m
  unfolding unanswered_rule
  rules_go_on e = simp (only_pings p m none ∙ e)

-- byte 2 is 0x80 or above, 0x40 to 0x7F, or below
module _ (p : Port) (m : Message) where
  pub above_stray : 0x80 ≤ m.byte2.0 → unchanged (carried stray m) p ≡ unasked_rule p m
  unfolding unasked_rule
  above_stray h =
      simp (le-leb 0x80 m.byte2.0 h, le-leb 0x40 m.byte2.0 (omega arith), lt-leb m.byte2.0 0x7F (omega arith), le-ltb m.byte2.0 0x40 (omega arith))
      (by_case (λ (r : Result). unchanged (carried stray m) p ≡ r) (leb m.byte2.0 0x83) (λ e. refl) (λ e. refl))

  pub between_plain : 0x40 ≤ m.byte2.0 → m.byte2.0 < 0x80 → unchanged (carried plain m) p ≡ unasked_rule p m
  unfolding unasked_rule
  between_plain h l =
      simp (lt-leb 0x80 m.byte2.0 l, le-leb 0x40 m.byte2.0 h, le-leb m.byte2.0 0x7F (omega arith))

  pub below_feature : m.byte2.0 < 0x40 → feature_rule p m ≡ unasked_rule p m
  unfolding unasked_rule
  below_feature l =
      simp (lt-leb 0x80 m.byte2.0 (omega arith), lt-leb 0x40 m.byte2.0 l, lt-ltb m.byte2.0 0x40 l)

-- what holds of each answer that a HID++ report can have holds of the one that the rules give
module _ (P : Answer → Type 0) (p : Port) (m : Message) where
  abbrev At : Result → Type 0
  At r = P r.answer

  pub of_each_answer : P (failed (about m (named2 m) (named3 m)) (code m) (kind_of m.byte2.0)) → P (carried (reply 0) m) → P (carried stray m) → P (carried plain m) → P (carried event m) → P (take_hidpp p m).answer
  unfolding take_hidpp error_rule reply_rule unanswered_rule unasked_rule feature_rule
  of_each_answer fails replies strays plains events =
      by_case At (is_error m.byte2.0)
      (λ e. by_case At (error_fits m && is_found (waiting_at p (named2 m) (named3 m))) (λ q. fails) (λ q. strays))
      (λ e. by_case At (is_found (answered_at p m)) (λ q. replies)
      (λ q. by_case At (is_found (waiting_at p m.byte2.0 m.byte3)) (λ z. strays)
      (λ z. by_case At (in_range 0x80 m.byte2.0 0x83) (λ y. strays)
      (λ y. by_case At (in_range 0x40 m.byte2.0 0x7F) (λ x. plains)
      (λ x. by_case At (is_feature m.byte2.0)
      (λ w. by_case At (is_major1 p.version) (λ v. plains)
      (λ v. by_case At (eqb (software_id m.byte3) 0) (λ u. events) (λ u. strays)))
      (λ w. strays))))))
