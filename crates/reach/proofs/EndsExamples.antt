-- Document 01, "Writing", "Taking a HID++ report" and "Taking a DJ report", and document 02, Ask 1: what answers say of the requests that ended, one answer for each way.
use Rattle.std.specs.Prelude.{ℕ, ◌+◌, ◌≡◌, refl, false, List, [], ◌∷◌}
use Rattle.std.proofs.Common.{sym, ◌∙◌, ap, true≢false, arith}
use Rattle.port.specs.declared.Port.{Port}
use Rattle.port.specs.declared.Request.{Request}
use Rattle.port.specs.Records.{empty_place, request_in}
use Rattle.port.specs.Places.{is_empty, sum_over}
use Rattle.port.specs.Waiting as waiting
use Rattle.port.specs.Answers.{About, reply, stray, failed, notice, unpaired, paired}
use Rattle.station.specs.Stations.{position_of}
use Rattle.restore.specs.Restoring.{refused_at}
use Rattle.sequence.specs.Steps.{Call, take, cancel, tick, restore, CallAnswer, taken, cancelled, ticked, restoring}
use Rattle.reach.specs.Ends.{Way, by_reply, by_error, by_expiry, by_cancel, by_drop, ending_of, ends_by, one_if, ended_by, ended_in_all, begun_on, Fate, stays, lowered, filled, emptied, waiting_on, EndsAt}

-- on a port: those ended by reply, by error, expired, cancelled, dropped
abbrev ended : ℕ → Call → CallAnswer → List ℕ
ended n c a =
    ended_by by_reply n (ending_of n c a)
    ∷ ended_by by_error n (ending_of n c a)
    ∷ ended_by by_expiry n (ending_of n c a)
    ∷ ended_by by_cancel n (ending_of n c a)
    ∷ ended_by by_drop n (ending_of n c a)
    ∷ []

abbrev on2 : About
on2 = record { port = 2; byte2 = 0; byte3 = 0x11; start = 4; size = 3 }

abbrev on255 : About
on255 = record { port = 255; byte2 = 0x83; byte3 = 0xB5; start = 4; size = 16 }

record Ended : Type 0 where
  replied : ended 2 (take []) (taken (reply 0 on2)) ≡ 1 ∷ 0 ∷ 0 ∷ 0 ∷ 0 ∷ []
  elsewhere : ended 3 (take []) (taken (reply 0 on2)) ≡ 0 ∷ 0 ∷ 0 ∷ 0 ∷ 0 ∷ []
  -- a reply on 255 of which the first parameter is for device 2: there is its drop count, and on 255 the request that it ends
  told : ended 2 (take (0x11 ∷ 255 ∷ 0x83 ∷ 0xB5 ∷ 0x31 ∷ [])) (taken (reply 3 on255)) ≡ 0 ∷ 0 ∷ 0 ∷ 0 ∷ 3 ∷ []
  told_on255 : ended 255 (take (0x11 ∷ 255 ∷ 0x83 ∷ 0xB5 ∷ 0x31 ∷ [])) (taken (reply 3 on255)) ≡ 1 ∷ 0 ∷ 0 ∷ 0 ∷ 0 ∷ []
  told_elsewhere : ended 1 (take (0x11 ∷ 255 ∷ 0x83 ∷ 0xB5 ∷ 0x31 ∷ [])) (taken (reply 3 on255)) ≡ 0 ∷ 0 ∷ 0 ∷ 0 ∷ 0 ∷ []
  stray : ended 2 (take []) (taken (stray on2)) ≡ 0 ∷ 0 ∷ 0 ∷ 0 ∷ 0 ∷ []
  error : ended 2 (take []) (taken (failed on2 1 0x8F)) ≡ 0 ∷ 1 ∷ 0 ∷ 0 ∷ 0 ∷ []
  expired : ended 2 tick (ticked (0 ∷ 3 ∷ 0 ∷ 0 ∷ 0 ∷ 0 ∷ 4 ∷ [])) ≡ 0 ∷ 0 ∷ 3 ∷ 0 ∷ 0 ∷ []
  receiver : ended 255 tick (ticked (0 ∷ 3 ∷ 0 ∷ 0 ∷ 0 ∷ 0 ∷ 4 ∷ [])) ≡ 0 ∷ 0 ∷ 4 ∷ 0 ∷ 0 ∷ []
  done : ended 2 (cancel 2 0 0x11) (cancelled waiting.done) ≡ 0 ∷ 0 ∷ 0 ∷ 1 ∷ 0 ∷ []
  refused : ended 2 (cancel 2 0 0x11) (cancelled (waiting.CancelAnswer.refused 13)) ≡ 0 ∷ 0 ∷ 0 ∷ 0 ∷ 0 ∷ []
  unpaired : ended 2 (take []) (taken (notice (unpaired 2 4))) ≡ 0 ∷ 0 ∷ 0 ∷ 0 ∷ 4 ∷ []
  paired : ended 2 (take []) (taken (notice (paired 2 false 0x2010 0x0E 3))) ≡ 0 ∷ 0 ∷ 0 ∷ 0 ∷ 3 ∷ []

-- a read, which is refused, begins and ends nothing
record Unheeded : Type 0 where
  ends : ended 2 (restore []) (restoring (refused_at 16 1)) ≡ 0 ∷ 0 ∷ 0 ∷ 0 ∷ 0 ∷ []
  begins : begun_on 2 (restore []) (restoring (refused_at 16 1)) ≡ 0

unheeded : Unheeded
unheeded = record { ends = refl; begins = refl }

all_ended : Ended
unfolding position_of
all_ended =
    record {
      replied = refl;
      elsewhere = refl;
      told = refl;
      told_on255 = refl;
      told_elsewhere = refl;
      stray = refl;
      error = refl;
      expired = refl;
      receiver = refl;
      done = refl;
      refused = refl;
      unpaired = refl;
      paired = refl;
    }

-- of every call: each place has its fate, each way its count, and the sum is kept
module _ (n : ℕ) (c : Call) (a : CallAnswer) (p q : Port) (e : EndsAt n c a p q) where
  each_place : (place : ℕ) → Fate n c a (request_in p.places place) (request_in q.places place)
  each_place = e.fate

  each_way : (w : Way) → sum_over (λ r. one_if (ends_by w n (ending_of n c a) r)) p.places ≡ ended_by w n (ending_of n c a)
  each_way = e.counted

  nothing_lost : waiting_on q + ended_in_all n (ending_of n c a) ≡ waiting_on p + begun_on n c a
  nothing_lost = e.balance

-- a tick leaves no count as it was
tick_lowers : {n : ℕ} {a : CallAnswer} {before after : Request} → Fate n tick a before after → is_empty before ≡ false → ¬ (after ≡ before)
unfolding empty_place
tick_lowers (stays f t h) e q = true≢false (simp e at t)
tick_lowers {before = before} (lowered c l h) e q = absurd (omega (arith, ap (λ (r : Request). r.ticks) (sym h ∙ q)))
tick_lowers {before = before} (emptied w f g h) e q = true≢false (ap is_empty (sym h ∙ q) ∙ e)
tick_lowers (filled byte2 byte3 ticks params offset lent c w f h) e q = true≢false (sym f ∙ e)
