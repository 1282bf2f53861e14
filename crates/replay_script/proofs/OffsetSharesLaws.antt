-- Laws of a text answered line by line, with the offset of a line and that of the newline that ends it. No function needs them, since the progress says the one, and each search the other.
use Rattle.std.specs.Prelude.{◌≡◌, ℕ, ◌+◌, ◌-◌, ◌<◌, ◌≤◌, true, false, Some, List, length, take, drop, refl}
use Rattle.std.proofs.Common.{sym, ◌∙◌, subst, arith}
use Rattle.std.proofs.Math.Path.{ap}
use Rattle.frame.specs.Writing as writing
use Rattle.station.specs.declared.Station.{Station}
use Rattle.replay_desk.specs.LineAnswers.{answer_room}
use Rattle.text.specs.Words.{newline}
use Rattle.replay_script.specs.declared.Progress.{Progress}
use Rattle.replay_script.specs.ReplayRuns.{answer_to}
use Rattle.replay_script.specs.Finding.{index_of, slice, found_in}
use Rattle.replay_script.specs.Shares.{before_share, share_rule}
use Rattle.replay_script.specs.ScriptContracts.{share_of, Adds}
use Rattle.replay_script.proofs.FindingLaws.{part_size, some_is, none_is}
use Rattle.replay_script.proofs.ShareLaws.{to_end, sliced}
use Rattle.replay_script.proofs.ShareLaws as share

-- the lines of a text are answered up to an offset, from which the next newline is at another; what is left comes to what the rule gives
pub record Answering (text out₀ : List ℕ) (run₀ : Progress) (out : List ℕ) (run : Progress) (at end : ℕ) : Type 0 where
  pub ordered : at ≤ end
  pub newline_at : end ≡ at + index_of newline (drop at text)
  pub within : end ≤ length text
  pub room : run.filled ≤ length out
  pub same : length out ≡ length out₀
  pub behind : drop run.filled out ≡ drop run.filled out₀
  pub so : before_share (take run.filled out) (share_rule run.station run.number (drop at text) (length out₀ - run.filled)) ≡ share_rule run₀.station run₀.number text (length out₀)

pub begun : (text out : List ℕ) (st : Station) (number end : ℕ) → end ≡ 0 + index_of newline (slice 0 (length text) text) → end ≤ length text → Answering text out (record { station = st; number = number; used = 0; filled = 0; full = false }) out (record { station = st; number = number; used = 0; filled = 0; full = false }) 0 end
begun text out st number end e h =
    record {
      ordered = omega arith;
      newline_at = sliced text 0 end e;
      within = h;
      room = omega arith;
      same = refl;
      behind = refl;
      so = ap (share_rule st number text) all_room;
    }
  where
    all_room : length out - 0 ≡ length out
    all_room = omega arith

module _ {text out₀ : List ℕ} {run₀ : Progress} {out : List ℕ} {run : Progress} {at end : ℕ} (k : Answering text out₀ run₀ out run at end) where
  -- the same of the progress at this offset
  so_far : share.Answering text out₀ run₀ out (record run { used = at; full = false })
  so_far =
      record {
        within = omega (arith, k.ordered, k.within);
        room = k.room;
        same = k.same;
        behind = k.behind;
        full = refl;
        so = k.so;
      }

  searched : end ≡ at + index_of newline (slice at (length text) text)
  searched = k.newline_at ∙ ap (λ (l : List ℕ). at + index_of newline l) (sym (to_end text at))

  size : length (slice at (length text) text) ≡ length text - at
  size = part_size at (length text) text (omega arith)

  abbrev left : List ℕ
  left = drop at text

  abbrev line : List ℕ
  line = take (index_of newline left) left

  pub same_line : take (end - at) left ≡ line
  same_line =
      let e : end - at ≡ index_of newline left = omega (arith, k.newline_at) in
      ap (λ (n : ℕ). take n left) e

  -- no newline is left
  pub all_answered : length text ≤ end → share_of (record { station = run.station; number = run.number; used = at; filled = run.filled; full = false }) text out ≡ share_rule run₀.station run₀.number text (length out₀)
  all_answered past =
      share.all_answered so_far (none_is newline at (length text) text (omega (arith, searched, size, past, k.within)))

  module _ (here : end < length text) where
    found_here : Some end ≡ found_in newline at (length text) text
    found_here =
        ap Some searched ∙ some_is newline at (length text) text (omega (arith, searched, size, here))

    -- there is no room for another answer
    pub stopped : length out - run.filled < answer_room → share_of (record { station = run.station; number = run.number; used = at; filled = run.filled; full = true }) text out ≡ share_rule run₀.station run₀.number text (length out₀)
    stopped little = share.stopped so_far found_here little

    pub has_room : answer_room ≤ length out - run.filled → writing.fits_at answer_room run.filled (length out) ≡ true
    has_room h = share.has_room so_far h

    -- the line is answered
    module _ (much : answer_room ≤ length out - run.filled) (r : Progress) {out₁ : List ℕ} (a : Adds run (take (end - at) left) out r out₁) (stays : length out ≡ length out₁) where
      adds_line : Adds run line out r out₁
      adds_line = subst (λ (l : List ℕ). Adds run l out r out₁) same_line a

      pub rest_room_law : length out₀ - run.filled - length (answer_to run.station run.number line).text ≡ length out₀ - r.filled
      rest_room_law = omega (arith, adds_line.filled)

      one_more : share.Answering text out₀ run₀ out₁ (record r { used = end + 1; full = false })
      one_more =
          share.answered_more so_far found_here much (record r { full = false })
          (record { text = a.text; filled = a.filled; station = a.station; number = a.number; full = refl; within = a.within }) stays

      pub answered_more : {found : ℕ} → found ≡ end + 1 + index_of newline (slice (end + 1) (length text) text) → found ≤ length text → Answering text out₀ run₀ out₁ r (end + 1) found
      answered_more {found} newline_found h =
          record {
            ordered = omega (arith, newline_found);
            newline_at = sliced text (end + 1) found newline_found;
            within = h;
            room = one_more.room;
            same = one_more.same;
            behind = one_more.behind;
            so = one_more.so;
          }
