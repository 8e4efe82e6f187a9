mod Meaning
