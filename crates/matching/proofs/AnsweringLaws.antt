-- Document 02, Ask 2: a reply answers a request exactly then.
use Rattle.std.specs.Prelude.{ℕ, ◌≡◌, refl, Bool, true, false, not, ◌&&◌, ◌||◌, List, eqb}
use Rattle.std.proofs.Common.{sym, true≢false, eqb-true, eq-eqb, ne_eqb}
use Rattle.std.proofs.lemmas.Bool.{eqb-false, not-true}
use Rattle.report.proofs.ChoicesLaws.{both}
use Rattle.report.specs.Sizes.{byte, function}
use Rattle.report.specs.Reading.{report_from}
use Rattle.port.specs.declared.Request.{Request}
use Rattle.port.specs.Places.{is_empty, matches}
use Rattle.matching.specs.Matching.{is_ping}
use Rattle.matching.specs.Messages.{message_of}
use Rattle.matching.specs.Answering.{Answers, AnswersExactly}

-- a test that is asked where two others hold
holds_where : (a b c : Bool) → (not (a && b) || c) ≡ true → a ≡ true → b ≡ true → c ≡ true
holds_where true true c e p q = e
holds_where true false c e p q = absurd (true≢false (sym q))
holds_where false b c e p q = absurd (true≢false (sym p))

where_holds : (a b c : Bool) → (a ≡ true → b ≡ true → c ≡ true) → (not (a && b) || c) ≡ true
where_holds true true c h = h refl refl
where_holds true false c h = refl
where_holds false b c h = refl

module _ (bytes : List ℕ) (r : Request) where
  abbrev same : Bool
  same = eqb r.byte2.0 (byte bytes 2) && eqb r.byte3 (byte bytes 3)

  abbrev third : Bool
  third = eqb (byte bytes 6) r.first.2

  abbrev pinged : Bool
  pinged = is_ping (byte bytes 2) (byte bytes 3)

  in_words : (matches (byte bytes 2) (byte bytes 3) r && (not pinged || third)) ≡ true → Answers bytes r
  in_words e =
      let m = both (matches (byte bytes 2) (byte bytes 3) r) (not pinged || third) e in
      let w = both (not (is_empty r)) same m.0 in
      let s = both (eqb r.byte2.0 (byte bytes 2)) (eqb r.byte3 (byte bytes 3)) w.1 in
      record {
        waits = eqb-false _ _ (not-true _ w.0);
        same2 = eqb-true _ _ s.0;
        same3 = eqb-true _ _ s.1;
        ping = λ zero one. eqb-true _ _ (holds_where _ _ _ m.1 (eq-eqb _ _ zero) (eq-eqb _ _ one));
      }

  by_words : Answers bytes r → (matches (byte bytes 2) (byte bytes 3) r && (not pinged || third)) ≡ true
  by_words a =
      simp (ne_eqb _ _ a.waits, eq-eqb _ _ a.same2, eq-eqb _ _ a.same3, where_holds (eqb (byte bytes 2) 0) (eqb (function (byte bytes 3)) 1) third (λ zero one. eq-eqb _ _ (a.ping (eqb-true _ _ zero) (eqb-true _ _ one))))

pub answers_exactly : (bytes : List ℕ) (r : Request) → AnswersExactly bytes r
unfolding message_of report_from
answers_exactly bytes r = (in_words bytes r, by_words bytes r)
