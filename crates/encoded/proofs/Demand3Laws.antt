-- Demand 3 holds.
use Rattle.std.proofs.Common.{◌∙◌, ap, le-leb}
use Rattle.sequence.proofs.IndependenceLaws as ports
use Rattle.sequence.proofs.HistoriesLaws as program
use Rattle.sequence.proofs.SequencesLaws.{sequences}
use Rattle.encoded.specs.Decoding.{Decoded}
use Rattle.encoded.proofs.EncodingLaws.{encodes}
use Rattle.encoded.proofs.WithinLaws.{decoded_within}
use Rattle.encoded.proofs.ReadBackLaws.{all_fit, run_reads_back, program_reads_back}
use Rattle.encoded.specs.EncodedRuns.{encoded_by, encoded_rule}
use Rattle.encoded.specs.Demand3.{Demand3}

pub demand3 : Demand3
unfolding encoded_rule encoded_by
demand3 =
    record {
      alone = ports.alone;
      orders = ports.orders;
      program = program.history;
      sequences = sequences;
      run_encoded = λ st encoded arena answers r arena_after answers_after kept cs decoded room. kept ∙ ap (λ (d : Decoded). encoded_by d st arena answers) decoded ∙ (simp (le-leb _ _ room));
      encoded = encodes;
      within = decoded_within;
      rows_fit = all_fit;
      rows_read_back = run_reads_back;
      program_rows = program_reads_back;
    }
