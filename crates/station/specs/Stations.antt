-- Document 01, "Ports and their records": seven ports.
use Rattle.std.specs.Prelude.{ℕ, suc, ◌+◌, ◌-◌, cond, false, [], get_or, set, replicate, ltb, None}
use Rattle.report.specs.Ports.{device_count, receiver, is_device}
use Rattle.port.specs.declared.Port.{Port}
use Rattle.port.specs.Records.{fresh_port}
use Rattle.station.specs.declared.Station.{Station}

-- the devices, and the receiver
abbrev pub port_count : ℕ
port_count = device_count + 1

-- devices 1 to 6 have positions 0 to 5, the receiver the last
abbrev pub receiver_position : ℕ
receiver_position = device_count

unfoldable pub position_of : ℕ → ℕ
position_of device = cond (is_device device) (device - 1) receiver_position

-- the number of the port at a position: a device's, or the receiver's
abbrev pub number_at : ℕ → ℕ
number_at position = cond (ltb position receiver_position) (suc position) receiver

unfoldable pub fresh_station : Station
fresh_station = record { ports = replicate port_count fresh_port }

-- what is past the last port: nothing is held there
abbrev pub no_port : Port
no_port =
    record {
      paired = false;
      wpid = 0;
      reports = 0;
      up = false;
      version = None;
      features = [];
      battery = None;
      serial = None;
      places = [];
    }

abbrev pub port_at : Station → ℕ → Port
port_at st position = get_or st.ports position no_port

-- the port of a number
abbrev pub port_for : Station → ℕ → Port
port_for st number = port_at st (position_of number)

-- a station with one port changed
unfoldable pub with_port : Station → ℕ → Port → Station
with_port st position port = record { ports = set st.ports position port }
