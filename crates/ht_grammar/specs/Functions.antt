-- The functions that `the` calls.
use Rattle.std.specs.Prelude.{Option, Some, None}
use Rattle.ht_values.specs.declared.operator.Func.{Func}
use Rattle.ht_values.specs.declared.operator.Func.TheVariants as func
use Rattle.ht_grammar.specs.declared.vocabulary.FunctionWord.{FunctionWord}
use Rattle.ht_grammar.specs.declared.vocabulary.FunctionWord.TheVariants as word

-- the function of texts alone that a word calls; `value` computes
abbrev pub func_of : FunctionWord → Option Func
func_of word.Abs = Some func.Abs
func_of word.CharToNum = Some func.CharToNum
func_of word.NumToChar = Some func.NumToChar
func_of word.Length = Some func.Length
func_of word.Value = None
