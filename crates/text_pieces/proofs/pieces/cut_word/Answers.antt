use Rattle.text_pieces.proofs.Cuts.{first_word}
use Rattle.text_pieces.proofs.WordRuns.{words_of}
use Rattle.text_pieces.proofs.pieces.cut_word.Goals as goal

pub returns : goal.returns
returns c =
    record {
      words = first_word c.args.line.now c.word_end-end.result c.get.result c.word_end-end.ensures c.get.ensures.lookup;
      joined = words_of c.args.line.now;
    }
