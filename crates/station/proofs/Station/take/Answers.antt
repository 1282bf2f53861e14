-- `station::Station::take` meets its contract.
use mathlib.Core.Path.{sym, ◌∙◌, ap}
use Rattle.std.specs.Prelude.{Ok}
use Rattle.report.specs.ReportContracts.{reading_of}
use Rattle.port.specs.Records.{with_link}
use Rattle.station.specs.StationTaking.{take_by}
use Rattle.station.proofs.StationTakingLaws.{also_none, also_kept, take_read, take_hidpp_law, take_dj_law, take_radio_length}
use Rattle.station.proofs.Station.take.Goals as goal

pub returns-in-Err : goal.returns-in-Err
unfolding take_by
returns-in-Err c = record {
  outcome = take_read _ _ (sym c.read.ensures.reading ∙ ap reading_of c.in-Err.is);
}

pub returns-in-Ok-EmptyList : goal.returns-in-Ok-EmptyList
unfolding take_by
returns-in-Ok-EmptyList c = record {
  outcome = take_read _ _ (sym c.read.ensures.reading ∙ ap reading_of (c.in-Ok-EmptyList.is ∙ ap Ok c.in-Ok-EmptyList.field-0-is));
}

pub returns-in-None : goal.returns-in-None
returns-in-None c = record {
  outcome = take_hidpp_law _ _ _ c.take_at-taken.result c.given_by-given.result (sym c.read.ensures.reading ∙ ap reading_of (c.in-Ok-Hidpp.is ∙ ap Ok c.in-Ok-Hidpp.field-0-is)) c.position_of-position.ensures.position c.given_by-given.ensures.given c.take_at-taken.ensures.result (also_none _ c.take_at-taken.result.answer c.in-None.is);
}

pub returns-in-Some : goal.returns-in-Some
returns-in-Some c = record {
  outcome = take_hidpp_law _ _ _ c.take_at-taken.result c.given_by-given.result (sym c.read.ensures.reading ∙ ap reading_of (c.in-Ok-Hidpp.is ∙ ap Ok c.in-Ok-Hidpp.field-0-is)) c.position_of-position.ensures.position c.given_by-given.ensures.given c.take_at-taken.ensures.result (also_kept _ c.take_at-taken.result.answer c.keep-kept.result c.with_drops.result c.in-Some.is c.position_of-beside.ensures.position c.keep-kept.ensures.kept c.with_drops.ensures);
}

pub returns-in-Some-accepted_length : goal.returns-in-Some-accepted_length
unfolding with_link
returns-in-Some-accepted_length c = record {
  outcome = take_radio_length _ _ _ _ (sym c.read.ensures.reading ∙ ap reading_of (c.in-Ok-Dj.is ∙ ap Ok c.in-Ok-Dj.field-0-is)) c.position_of-position-in-Ok-Dj.ensures.position c.in-Some-accepted_length.ensures.length;
}

pub returns-in_default : goal.returns-in_default
returns-in_default c = record {
  outcome = take_dj_law _ _ _ c.take_at-taken-in-Ok-Dj.result (sym c.read.ensures.reading ∙ ap reading_of (c.in-Ok-Dj.is ∙ ap Ok c.in-Ok-Dj.field-0-is)) c.position_of-position-in-Ok-Dj.ensures.position c.take_at-taken-in-Ok-Dj.ensures.result;
}
