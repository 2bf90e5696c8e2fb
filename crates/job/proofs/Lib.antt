mod Scripting
