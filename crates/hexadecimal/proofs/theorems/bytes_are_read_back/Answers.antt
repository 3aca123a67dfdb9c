use Rattle.hexadecimal.proofs.Back.{read_back, written_back, line_read_back}
use Rattle.hexadecimal.proofs.theorems.bytes_are_read_back.Goals as goal

pub returns : goal.returns
returns c = record { read = read_back; written = written_back; line = line_read_back }
