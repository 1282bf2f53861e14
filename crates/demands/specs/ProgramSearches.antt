-- Document 02, Ask 4, of the program: what its three searches over waiting places were proved to ensure, for any places. Each field cites a contract itself. That a call searches by these is not stated here: what a call comes to is (`answers` of the demands, and `lowest` of what holds of the rules).
use Rattle.std.specs.Prelude.{ℕ, List, Option}
use Rattle.report.specs.declared.FeatureIndex.{FeatureIndex}
use Rattle.port.specs.declared.Request.{Request}
use Rattle.port.specs.Places.{is_empty, matches}
use Rattle.port.specs.Searching.{Finds}
use Rattle.port.proofs.first_match.Reads as match_reads
use Rattle.port.proofs.first_empty.Reads as empty_reads
use Rattle.matching.specs.declared.Message.{Message}
use Rattle.matching.specs.Matching.{answers}
use Rattle.matching.proofs.first_answered.Reads as answered_reads

pub record ProgramSearches : Type 0 where
  -- for a request with two bytes: of an error, of a request that may wait already (11), of a cancel, of a ping whose third parameter differs, and of a request for a serial
  pub waiting : (places : List Request) (byte2 : FeatureIndex) (byte3 : ℕ) (found : Option ℕ) → match_reads.Learnt tt (places, (byte2, (byte3, tt))) found (places, (byte2, (byte3, tt))) → Finds (matches byte2.0 byte3) places found
  -- for an empty place, of a request
  pub empty : (places : List Request) (found : Option ℕ) → empty_reads.Learnt tt (places, tt) found (places, tt) → Finds is_empty places found
  -- for the request that a report answers, of a ping by the third parameter too
  pub answered : (places : List Request) (m : Message) (found : Option ℕ) → answered_reads.Learnt tt (places, (m, tt)) found (places, (m, tt)) → Finds (answers m) places found
