use Rattle.frames.proofs.Frames as frames
use Rattle.frames.proofs.theorems.frames_are_read_back.Goals as goal

pub returns : goal.returns
returns c =
    record {
      numbers = frames.numbers_read_back;
      read = frames.frames_read_back;
      written = frames.frames_written_back;
      refused = frames.refused_when_none;
      line = frames.lines_read_back;
      front = frames.front_suffices;
    }
