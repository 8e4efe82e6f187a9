-- What a drive on the thread that calls counts.
use Rattle.std.specs.Prelude.{ℕ}
use Rattle.future_bridge.specs.declared.drives.HostDrive.{HostDrive}

-- how often it failed
abbrev pub host_faults : {R : Type 0} → HostDrive R → ℕ
host_faults d = d.faults
