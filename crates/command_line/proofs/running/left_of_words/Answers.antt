use Rattle.command_line.proofs.running.left_of_words.Goals as goal

pub returns : goal.returns
returns g c = record { channels = _; jobs = _; rests = c.requires.rest }
