use Rattle.frames.proofs.Readings as readings
use Rattle.frames.proofs.theorems.readings_are_read_back.Goals as goal

pub returns : goal.returns
returns c =
    record { read = readings.readings_read_back; written = readings.readings_written_back; pair_read = readings.pairs_read_back; pair_written = readings.pairs_written_back }
