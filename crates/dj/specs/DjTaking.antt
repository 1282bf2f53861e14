-- Document 01, "Taking a DJ report", and document 02, Ask 5, at the port that the report names.
use Rattle.std.specs.Prelude.{ℕ, ◌+◌, Bool, true, cond, not, ◌&&◌, List, ltb, eqb}
use Rattle.report.specs.Refusals.{not_paired, not_declared, dirty_padding}
use Rattle.report.specs.Sizes.{byte, bit, dj_start, joined2, joined4}
use Rattle.report.specs.Radio.{radio_types, payload_length}
use Rattle.report.specs.Reading.{Report}
use Rattle.port.specs.declared.Port.{Port}
use Rattle.port.specs.Records.{made_fresh, with_pairing, with_reports, with_link}
use Rattle.port.specs.Places.{count_waiting}
use Rattle.port.specs.Answers.{Answer, Result, refused, radio, notice, unpaired, paired, link, other}
use Rattle.dj.specs.Padding.{is_clean}

-- the parameters p0.. by their number
abbrev pub p : List ℕ → ℕ → ℕ
p bytes i = byte bytes (dj_start + i)

-- bit t of the bitfield; no type above 31 has one
abbrev pub is_declared : ℕ → ℕ → Bool
is_declared reports kind = ltb kind radio_types && bit kind reports

-- a radio report's type, and where its payload is
abbrev pub radio_answer : ℕ → ℕ → Answer
radio_answer kind size = radio kind dj_start (payload_length kind size)

-- a radio report with `size` bytes after its type: 7, 8, 17, or that, and link up
unfoldable pub radio_rule : Port → ℕ → ℕ → List ℕ → Result
radio_rule port kind size bytes =
    cond (not port.paired) (record { answer = refused not_paired; port = port })
    (cond (not (is_declared port.reports kind)) (record { answer = refused not_declared; port = port })
    (cond (not (is_clean kind size bytes)) (record { answer = refused dirty_padding; port = port })
    (record { answer = radio_answer kind size; port = with_link port true })))

-- 0x40: the whole port is made fresh, and the answer says how many requests waited there
unfoldable pub unpaired_rule : Port → ℕ → Result
unpaired_rule port device =
    record { answer = notice (unpaired device (count_waiting port.places)); port = made_fresh port }

-- p0 bit 0 of a 0x41: more devices follow
abbrev pub is_more : List ℕ → Bool
is_more bytes = bit 0 (p bytes 0)

-- WPID p1 + 256 × p2
abbrev pub wpid_of : List ℕ → ℕ
wpid_of bytes = joined2 (p bytes 1) (p bytes 2)

-- bitfield p3 to p6, lowest byte first
abbrev pub reports_of : List ℕ → ℕ
reports_of bytes = joined4 (p bytes 3) (p bytes 4) (p bytes 5) (p bytes 6)

-- the device is paired with that WPID
abbrev pub is_paired_with : Port → ℕ → Bool
is_paired_with port wpid = port.paired && eqb port.wpid wpid

-- 0x41: a device that has this WPID already gets the new bitfield and keeps the rest; for any other, the port is made fresh and then paired, and the answer says how many requests waited there
unfoldable pub paired_rule : Port → ℕ → Bool → ℕ → ℕ → Result
paired_rule port device more wpid reports =
    cond (is_paired_with port wpid)
    (record { answer = notice (paired device more wpid reports 0); port = with_reports port reports })
    (record {
      answer = notice (paired device more wpid reports (count_waiting port.places));
      port = with_pairing (made_fresh port) wpid reports;
    })

-- p0 bit 0 of a 0x42 set is link down, else up
abbrev pub is_up : List ℕ → Bool
is_up bytes = not (bit 0 (p bytes 0))

-- 0x42: 7, or the link
unfoldable pub link_rule : Port → ℕ → Bool → Result
link_rule port device up =
    cond port.paired (record { answer = notice (link device up); port = with_link port up })
    (record { answer = refused not_paired; port = port })

-- others change nothing
unfoldable pub other_rule : Port → ℕ → ℕ → Result
other_rule port device kind = record { answer = notice (other device kind); port = port }

-- a radio report, or a notification that is no empty list
unfoldable pub take_dj : Port → Report → List ℕ → Result
take_dj port r bytes =
    cond (ltb r.byte2 0x40) (radio_rule port r.byte2 r.size bytes)
    (cond (eqb r.byte2 0x40) (unpaired_rule port r.device)
    (cond (eqb r.byte2 0x41) (paired_rule port r.device (is_more bytes) (wpid_of bytes) (reports_of bytes))
    (cond (eqb r.byte2 0x42) (link_rule port r.device (is_up bytes))
    (other_rule port r.device r.byte2))))
