-- docs/SCRIPTS.md, "Lines": the lines of scripts, and runs over them, worked out.
use Rattle.std.specs.Prelude.{◌≡◌, [], ◌∷◌, refl}
use Rattle.text.specs.Words.{ascii, digit, decimal, decimal_in}
use Rattle.station.specs.declared.Station.{Station}
use Rattle.replay_line.specs.LineWords.{words, words_after, same_word}
use Rattle.replay_line.specs.LineCalls.{line_rule, text_rule, without_return, other_rows, writer_rows}
use Rattle.replay_render.specs.AnswerLines.{no_call_text}
use Rattle.replay_desk.specs.LineAnswers.{command_rule}
use Rattle.replay_script.specs.ReplayRuns.{lines_after, run_lines, run_rule}

nothing : lines_after [] [] ≡ []
unfolding lines_after
nothing = refl

empty_lines : lines_after [] (ascii "\n\n") ≡ [] ∷ [] ∷ []
unfolding lines_after
empty_lines = refl

last_line_ended : lines_after [] (ascii "tick\ndump\n") ≡ ascii "tick" ∷ ascii "dump" ∷ []
unfolding lines_after
last_line_ended = refl

last_line_not_ended : lines_after [] (ascii "tick\n\ndump") ≡ ascii "tick" ∷ [] ∷ ascii "dump" ∷ []
unfolding lines_after
last_line_not_ended = refl

-- every line counts; only what is no call is answered here, and the station stays as it is
no_calls : (st : Station) → run_rule st 0 (ascii "x\n#\n\n y") ≡ record { text = ascii "line 1 is no call\nline 4 is no call\n"; station = st; number = 4 }
unfolding run_rule lines_after run_lines command_rule line_rule text_rule without_return words words_after same_word other_rows writer_rows no_call_text decimal decimal_in digit
no_calls st = refl
